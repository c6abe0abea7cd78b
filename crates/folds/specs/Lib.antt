pub mod Firsts
pub mod Filled
pub mod Orders
pub mod Sums
