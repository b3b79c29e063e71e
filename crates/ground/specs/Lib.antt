pub mod Choice
pub mod Bits
pub mod Bytes
