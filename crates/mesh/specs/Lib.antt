pub mod Meshes
pub mod Numbering
pub mod Refusals
pub mod Routes
pub mod Texts
pub mod Travels
pub mod Walks
