pub mod Elements
pub mod Weights
pub mod RowLaws
pub mod WeightLaws
