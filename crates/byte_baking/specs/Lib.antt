pub mod Output
pub mod Baked
