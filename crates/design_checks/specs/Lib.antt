pub mod BodyBreaks
pub mod Breaks
pub mod Law
