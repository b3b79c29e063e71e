pub mod Questions
pub mod clauses
