pub mod Span
pub mod clauses
