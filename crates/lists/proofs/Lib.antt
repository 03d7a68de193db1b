pub mod Inputs
pub mod Copying
