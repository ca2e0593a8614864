pub mod Cells
pub mod Window
pub mod Frame
pub mod Lanes
pub mod Rings
