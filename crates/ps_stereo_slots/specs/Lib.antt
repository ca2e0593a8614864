pub mod Slots
pub mod Regions
pub mod Envelopes
pub mod Coefficients
