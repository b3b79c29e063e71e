pub mod Packed
pub mod Entries
pub mod clauses
