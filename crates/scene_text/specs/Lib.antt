pub mod Scanned
pub mod Reading
pub mod Breaks
