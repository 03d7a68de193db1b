pub mod MarkLaws
pub mod KindLaws
