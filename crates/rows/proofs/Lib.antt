pub mod Bits
pub mod RowsMade
pub mod Gates
pub mod Evaluating
pub mod Flags
