pub mod Classes
pub mod Keeping
pub mod Growing
