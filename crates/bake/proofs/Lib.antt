pub mod Meshed
pub mod Judging
pub mod TablesRange
pub mod Isolated
pub mod Whole
