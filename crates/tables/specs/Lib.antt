pub mod Alone
pub mod Records
pub mod Tags
pub mod Decoded
pub mod Codes
