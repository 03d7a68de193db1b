pub mod BytesLaws
pub mod Isolated
