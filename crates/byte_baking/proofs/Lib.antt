pub mod OutputLaws
pub mod BakedLaws
