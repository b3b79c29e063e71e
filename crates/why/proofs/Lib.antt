pub mod Stating
pub mod Masks
pub mod Forcing
pub mod Turns
pub mod Unique
