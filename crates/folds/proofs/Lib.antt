pub mod Counts
pub mod Firsts
pub mod Anys
pub mod Filled
pub mod Orders
pub mod Ups
pub mod Sums
