pub mod Stepping
pub mod Operands
