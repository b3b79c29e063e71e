pub mod Check
pub mod clauses
