pub mod Relation
pub mod Least
pub mod clauses
