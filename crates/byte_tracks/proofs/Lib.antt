pub mod WeightRoom
