pub mod Cutting
pub mod Putting
pub mod Decimal
pub mod Asking
pub mod Valuing
pub mod Tables
pub mod Answering
pub mod Unique
