pub mod Floors
pub mod Landings
pub mod Lines
pub mod Marks
pub mod Reading
pub mod Starting
pub mod Networks
