pub mod Lines
pub mod Encoded
