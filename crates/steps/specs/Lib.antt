pub mod Step
pub mod Table
pub mod Rest
pub mod clauses
