pub mod Rows
pub mod Blending
