pub mod Matrices
pub mod Courses
pub mod Fits
