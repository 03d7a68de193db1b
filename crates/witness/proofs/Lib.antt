pub mod Decoded
pub mod Agreed
pub mod Accepted
pub mod Witnessed
