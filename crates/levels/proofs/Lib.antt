pub mod Written
pub mod Leveling
pub mod Joining
pub mod Nesting
pub mod Turning
pub mod Nested
pub mod Waiting
