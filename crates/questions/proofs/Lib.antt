pub mod Written
pub mod Connectives
pub mod Guards
pub mod Pairs
pub mod Others
pub mod Whole
pub mod Within
