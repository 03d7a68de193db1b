pub mod ScanLaws
pub mod ReadLaws
pub mod WordLaws
pub mod AnswerLaws
pub mod BreakLaws
