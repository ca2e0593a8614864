pub mod Envelope
pub mod Loops
