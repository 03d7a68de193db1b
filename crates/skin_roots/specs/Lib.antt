pub mod Lines
pub mod Roots
