pub mod DigitLaws
pub mod Pushing
