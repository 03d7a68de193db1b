pub mod Tracks
pub mod Bytes
