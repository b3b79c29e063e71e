pub mod Service
pub mod clauses
