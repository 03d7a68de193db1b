pub mod Values
pub mod Tracks
pub mod Codes
