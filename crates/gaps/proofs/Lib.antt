pub mod Ascending
pub mod Written
pub mod Words
pub mod Since
pub mod RowWriting
