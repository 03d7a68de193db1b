pub mod Reading
pub mod Cutting
pub mod Naming
pub mod Decoding
