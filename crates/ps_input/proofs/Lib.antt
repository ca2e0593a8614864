pub mod Limits
pub mod Answers
