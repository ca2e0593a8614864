pub mod Gains
pub mod Rows
