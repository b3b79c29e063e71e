pub mod Put
pub mod Cutting
pub mod Digit
