pub mod Scenes
pub mod Lent
pub mod Bakes
