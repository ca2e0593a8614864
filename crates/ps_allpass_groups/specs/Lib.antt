pub mod Lanes
pub mod Desk
pub mod Rings
pub mod Groups
