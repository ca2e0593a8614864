pub mod Pasted
pub mod Spans
pub mod Runs
pub mod Taps
pub mod Channels
pub mod Split
pub mod Whole
