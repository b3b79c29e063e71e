pub mod Cut
pub mod Codes
pub mod Shape
pub mod Place
pub mod Writing
