pub mod Steps
pub mod ExactSteps
