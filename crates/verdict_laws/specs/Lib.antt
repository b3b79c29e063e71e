pub mod Trial
pub mod Together
