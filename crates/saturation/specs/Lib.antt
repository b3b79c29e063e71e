pub mod Saturation
pub mod Answer
pub mod clauses
