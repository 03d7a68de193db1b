pub mod Reasons
pub mod Passed
pub mod Told
