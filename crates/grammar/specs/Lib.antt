pub mod Digits
pub mod Forms
pub mod Shape
pub mod Parsed
pub mod Common
pub mod Breaks
