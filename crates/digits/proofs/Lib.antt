pub mod DecimalLaws
pub mod EightLaws
pub mod NumberLaws
pub mod PaddedLaws
pub mod StandingLaws
pub mod TensLaws
