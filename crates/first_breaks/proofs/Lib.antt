pub mod Depending
pub mod Listed
pub mod Reported
