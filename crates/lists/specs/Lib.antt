pub mod Digits
pub mod Fields
pub mod Moves
pub mod Inputs
pub mod Checked
pub mod Tallies
