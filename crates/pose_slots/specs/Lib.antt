pub mod Slots
pub mod Channels
pub mod Gifts
