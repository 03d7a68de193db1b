pub mod Squares
pub mod Rooting
pub mod RootNear
pub mod Quick
pub mod RootRange
pub mod Normals
pub mod Lanes
