pub mod Near
pub mod Values
pub mod Close
pub mod Exact
pub mod Step
pub mod SeriesClose
pub mod Last
pub mod Turn
