pub mod Scratch
pub mod Skinned
pub mod Numbers
