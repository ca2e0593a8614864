pub mod Cells
pub mod Pairs
pub mod Window
pub mod Rows
pub mod Overwritten
pub mod Rings
