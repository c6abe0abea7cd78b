pub mod Lists
pub mod Blanks
