pub mod Lowest
pub mod Counted
pub mod Clearing
pub mod OutOfTable
