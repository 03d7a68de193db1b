pub mod Skinning
pub mod PosedWeights
pub mod Finishing
