pub mod Places
pub mod Bounds
