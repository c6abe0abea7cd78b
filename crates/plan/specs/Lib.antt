pub mod Settings
pub mod Refusals
pub mod Tables
pub mod Reserving
pub mod Sheets
