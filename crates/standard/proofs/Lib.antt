pub mod Frames
pub mod Runs
pub mod Spans
pub mod Channels
pub mod Literals
