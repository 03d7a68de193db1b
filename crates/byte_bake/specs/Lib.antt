pub mod Baked
pub mod Isolation
