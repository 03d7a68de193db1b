pub mod Tested
pub mod Inverted
