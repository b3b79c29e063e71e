pub mod Keeping
pub mod Reasons
