pub mod Ranges
pub mod Reserving
pub mod Admitted
pub mod Figures
pub mod Busiest
