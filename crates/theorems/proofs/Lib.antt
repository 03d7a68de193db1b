pub mod Lengths
pub mod Judging
pub mod Calls
pub mod Baking
pub mod Heights
pub mod Above
pub mod Settled
