pub mod ListLaws
pub mod MeetingLaws
pub mod ReadingLaws
pub mod RunLaws
