pub mod Pack
pub mod clauses
