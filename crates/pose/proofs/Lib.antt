pub mod LineLaws
pub mod RowLaws
pub mod SizeLaws
pub mod EncodeLaws
pub mod StepLaws
pub mod ClearLaws
pub mod CallLaws
pub mod WeightLaws
