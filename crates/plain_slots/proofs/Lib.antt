pub mod Carried
pub mod Reading
pub mod Bands
pub mod Sides
