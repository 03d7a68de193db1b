pub mod Weights
pub mod Skeletons
pub mod Palette
pub mod Calls
