pub mod All
pub mod Part
pub mod Rows
pub mod Ring
pub mod Queue
pub mod Padded
pub mod First
