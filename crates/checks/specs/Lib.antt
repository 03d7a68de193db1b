pub mod Drawn
pub mod Checked
