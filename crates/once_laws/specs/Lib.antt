pub mod Accepted
pub mod OneStage
