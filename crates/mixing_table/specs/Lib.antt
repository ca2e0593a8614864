pub mod Values
pub mod Coefficients
