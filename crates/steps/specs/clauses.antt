pub mod Leading
pub mod Resting
