pub mod Calls
pub mod Counts
pub mod Promises
pub mod Edges
pub mod Frozen
