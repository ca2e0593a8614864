pub mod Queues
pub mod State
pub mod Frame
pub mod Slots
pub mod Run
