pub mod Averages
pub mod Bands
pub mod Duplicates
pub mod Held
pub mod Literals
pub mod Maps
