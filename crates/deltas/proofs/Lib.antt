pub mod Floatwise
pub mod DeltaLaws
pub mod AddLaws
pub mod BetweenLaws
