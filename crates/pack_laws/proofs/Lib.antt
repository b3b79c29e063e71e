pub mod Places
pub mod Leftmost
pub mod Examples
