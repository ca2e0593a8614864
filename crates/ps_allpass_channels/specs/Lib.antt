pub mod Channels
pub mod Desks
pub mod DeskNumbers
pub mod Slots
