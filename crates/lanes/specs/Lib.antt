pub mod Lanes
pub mod Rings
