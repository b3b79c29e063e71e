pub mod Calls
pub mod Ending
