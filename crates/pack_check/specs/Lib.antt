pub mod PackCheck
pub mod clauses
