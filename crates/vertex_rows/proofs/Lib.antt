pub mod RowAccess
pub mod RowSteps
pub mod RowLengths
pub mod Turned
pub mod Blended
pub mod Plain
