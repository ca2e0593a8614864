pub mod Digits
pub mod Fields
pub mod Checks
pub mod Line
