pub mod Literals
pub mod Computing
pub mod Root
pub mod Written
pub mod Below
pub mod Valuing
