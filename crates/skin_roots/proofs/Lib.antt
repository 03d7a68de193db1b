pub mod Every
pub mod Leads
pub mod Marked
pub mod Rooting
pub mod Upward
