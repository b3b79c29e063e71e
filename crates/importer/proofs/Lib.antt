pub mod Fitting
pub mod Unique
pub mod Apart
