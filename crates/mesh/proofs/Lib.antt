pub mod Rising
pub mod Segments
pub mod SlotLaws
pub mod StationLaws
pub mod TargetLaws
pub mod Sizes
pub mod Morphing
