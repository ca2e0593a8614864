pub mod Analysis
pub mod Stages
