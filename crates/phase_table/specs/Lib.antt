pub mod Values
pub mod Directions
