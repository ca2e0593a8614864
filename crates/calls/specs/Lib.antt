pub mod Cues
pub mod Call
pub mod Run
pub mod Near
pub mod Isolation
