pub mod Needed
pub mod Lengths
