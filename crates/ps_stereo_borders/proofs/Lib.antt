pub mod Runs
pub mod Parts
pub mod Phases
pub mod Courses
pub mod Turns
pub mod Fits
pub mod Standard
