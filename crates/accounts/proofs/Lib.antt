pub mod Refills
pub mod Ready
pub mod Steps
pub mod Shares
pub mod Stretches
pub mod Opened
pub mod Worked
