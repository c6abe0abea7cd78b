pub mod Offering
pub mod Opening
pub mod Leaving
pub mod Reach
pub mod Searching
