pub mod Numbering
pub mod Listing
pub mod Walk
pub mod Standing
pub mod StandingLaws
pub mod Fitting
