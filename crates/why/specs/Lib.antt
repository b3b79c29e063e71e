pub mod Numbered
pub mod Kept
pub mod Explained
pub mod clauses
