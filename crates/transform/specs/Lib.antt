pub mod Blocks
pub mod Rigid
