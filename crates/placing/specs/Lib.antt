pub mod Walk
pub mod WalkRoom
