pub mod Lengths
pub mod Arrays
pub mod Products
pub mod Slotted
pub mod Turns
