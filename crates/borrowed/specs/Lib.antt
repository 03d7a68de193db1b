pub mod Slices
pub mod InPlace
pub mod Written
pub mod Attributes
