pub mod Places
pub mod Rings
pub mod Wraps
pub mod Silenced
