pub mod Lists
pub mod ListLaws
pub mod Runs
pub mod RunLemmas
pub mod Passing
