pub mod Moved
pub mod Holding
