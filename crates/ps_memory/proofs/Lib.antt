pub mod Laid
pub mod Read
pub mod Narrow
pub mod Back
pub mod Rows
pub mod Mapped
pub mod Phases
pub mod Kept
