pub mod Cycles
pub mod HandSteps
pub mod Sessions
