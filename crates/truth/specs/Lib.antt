pub mod Connectives
pub mod Value
pub mod clauses
