pub mod Sums
pub mod Shaping
pub mod Morphing
pub mod Baking
pub mod Putting
pub mod Going
