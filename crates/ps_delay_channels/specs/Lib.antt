pub mod Channels
pub mod Spans
