pub mod Stack
pub mod Marks
