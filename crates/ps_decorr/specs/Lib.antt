pub mod State
pub mod Channels
