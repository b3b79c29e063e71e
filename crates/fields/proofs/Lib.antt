pub mod Cutting
pub mod Pieced
