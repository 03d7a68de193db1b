pub mod Counted
pub mod Needed
pub mod Judging
pub mod Enough
