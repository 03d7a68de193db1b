pub mod Filling
pub mod Cases
