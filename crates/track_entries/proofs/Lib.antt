pub mod Naming
pub mod Handing
pub mod Rooms
pub mod Decoding
pub mod Delivering
