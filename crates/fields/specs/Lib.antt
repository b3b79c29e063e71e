pub mod Fields
pub mod clauses
