pub mod Pieces
pub mod Room
pub mod Steps
pub mod Whole
