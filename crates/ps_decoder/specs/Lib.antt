pub mod Frame
pub mod Sound
pub mod Run
pub mod Isolation
