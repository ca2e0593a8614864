pub mod Values
pub mod Rotations
