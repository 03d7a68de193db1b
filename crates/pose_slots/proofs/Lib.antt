pub mod Overlaid
pub mod SlotLaws
pub mod GiftLaws
pub mod SampledGifts
