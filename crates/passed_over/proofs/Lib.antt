pub mod GiftLaws
pub mod ReasonLaws
pub mod TableLaws
pub mod FirstLaws
pub mod CallLaws
pub mod PassedLaws
pub mod Codes
