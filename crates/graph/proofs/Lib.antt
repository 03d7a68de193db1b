pub mod Pushing
pub mod Taking
pub mod Answering
