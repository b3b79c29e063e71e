pub mod Lines
pub mod Question
pub mod Printed
pub mod Answer
pub mod Output
pub mod clauses
