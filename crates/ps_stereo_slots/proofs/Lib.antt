pub mod Runs
pub mod Covered
pub mod Filled
pub mod Borders
pub mod Reading
pub mod Interpolating
pub mod Located
