pub mod Posed
pub mod Drawing
pub mod Placed
pub mod NamedPalette
