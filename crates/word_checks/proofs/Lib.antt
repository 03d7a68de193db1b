pub mod ByNumber
pub mod Firsts
pub mod Lower
pub mod AskedLaws
