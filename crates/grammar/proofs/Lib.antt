pub mod Words
pub mod Back
pub mod Found
pub mod Prefix
pub mod BreakLaws
