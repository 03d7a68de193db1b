pub mod Slots
pub mod Posed
pub mod Rooms
pub mod Placed
