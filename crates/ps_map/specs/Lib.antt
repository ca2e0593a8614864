pub mod Bands
pub mod Tables
pub mod Maps
pub mod Standalone
