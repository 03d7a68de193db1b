pub mod Outcomes
pub mod Readings
pub mod Answers
pub mod Room
