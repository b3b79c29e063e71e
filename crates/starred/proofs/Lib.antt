pub mod Sketches
pub mod Certificates
pub mod Slips
pub mod Checked
pub mod Table
