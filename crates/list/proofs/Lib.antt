pub mod Complete
pub mod OfGuard
pub mod Listed
