pub mod Stepping
pub mod Answering
pub mod Filled
pub mod Delivering
pub mod Reading
