pub mod Deltas
pub mod Mixed
pub mod Betweens
