pub mod Chance
pub mod Heads
