pub mod Cases
pub mod Truths
