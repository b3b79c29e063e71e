pub mod Longer
pub mod Stages
pub mod Held
pub mod Further
pub mod Taking
pub mod Guarded
pub mod Stepping
pub mod Ending
