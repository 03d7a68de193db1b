pub mod Composed
pub mod HeldBack
pub mod Moved
pub mod HeldSteps
