pub mod Decoding
pub mod Standing
