pub mod Packed
pub mod Place
pub mod Shape
