pub mod Stage
pub mod StageFits
pub mod StageLemmas
pub mod Signalling
pub mod Examples
