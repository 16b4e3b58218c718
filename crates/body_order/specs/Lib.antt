pub mod BodyLaws
pub mod Cycles
pub mod Makers
pub mod Signals
