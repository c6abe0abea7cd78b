pub mod Orders
pub mod Searches
pub mod Rules
pub mod Edges
