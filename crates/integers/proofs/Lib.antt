pub mod Signs
pub mod Sizes
pub mod Ranges
pub mod Quotients
pub mod Bits
pub mod Samples
