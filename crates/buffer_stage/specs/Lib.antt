pub mod Passes
pub mod PassLemmas
pub mod GoodParts
pub mod Outputs
pub mod Readies
