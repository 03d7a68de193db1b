pub mod TableLaws
pub mod WritingLaws
