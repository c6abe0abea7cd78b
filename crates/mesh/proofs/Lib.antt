pub mod Numbers
pub mod Travelling
pub mod Walking
pub mod Writing
