pub mod Computed
pub mod Values
pub mod Words
pub mod Written
pub mod OneProof
pub mod Formulas
