pub mod Near
pub mod Compared
