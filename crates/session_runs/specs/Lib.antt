pub mod RunLemmas
pub mod Runs
pub mod WordLemmas
pub mod Words
