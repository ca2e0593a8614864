pub mod Rows
pub mod Slots
pub mod Detectors
pub mod Powers
pub mod Ducks
