pub mod Gaps
pub mod Writing
pub mod clauses
