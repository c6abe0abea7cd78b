pub mod Channels
pub mod Routes
pub mod Crossings
