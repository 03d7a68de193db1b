pub mod Filled
pub mod Read
pub mod Laid
pub mod Said
