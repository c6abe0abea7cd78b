pub mod Rings
pub mod Held
