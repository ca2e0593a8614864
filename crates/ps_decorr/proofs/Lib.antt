pub mod Silenced
pub mod Ranges
pub mod Held
