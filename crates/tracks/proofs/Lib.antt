pub mod Layouts
pub mod Drawn
pub mod Ascent
