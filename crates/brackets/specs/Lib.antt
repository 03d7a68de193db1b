pub mod Met
pub mod Read
pub mod Runs
