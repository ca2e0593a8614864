pub mod Api
pub mod Run
