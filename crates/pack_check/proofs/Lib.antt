pub mod Asked
pub mod Rows
pub mod Packs
pub mod Unique
