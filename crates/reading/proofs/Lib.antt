pub mod Parsing
pub mod Serving
pub mod Places
