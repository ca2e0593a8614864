pub mod Characters
pub mod Pairs
pub mod Sizes
pub mod Finding
pub mod Refusals
