pub mod Weights
pub mod Delivered
