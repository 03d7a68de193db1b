pub mod Answering
pub mod Binding
pub mod Blending
pub mod Palettes
pub mod Rows
