pub mod Lent
pub mod Stations
pub mod Blended
pub mod Added
