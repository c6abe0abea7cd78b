pub mod Same
pub mod Rules
pub mod Edges
pub mod Liveness
