pub mod Lines
pub mod Values
pub mod Questions
pub mod Promises
pub mod Answers
