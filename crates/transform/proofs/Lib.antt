pub mod Packing
pub mod Blocked
pub mod Handed
