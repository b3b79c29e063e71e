pub mod Held
pub mod Moved
