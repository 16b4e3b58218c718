pub mod WeightSteps
