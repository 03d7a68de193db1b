pub mod Packed
pub mod Standing
