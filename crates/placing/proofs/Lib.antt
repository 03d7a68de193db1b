pub mod Stack
pub mod Unplaced
pub mod Taking
pub mod Stepping
pub mod Going
pub mod Meaning
pub mod Linked
