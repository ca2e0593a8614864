pub mod Places
pub mod Ranges
pub mod Turns
pub mod Inside
