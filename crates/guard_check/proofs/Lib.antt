pub mod Trying
pub mod Tables
pub mod Checking
pub mod Unique
