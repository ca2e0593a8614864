pub mod Range
pub mod Shifts
pub mod Back
