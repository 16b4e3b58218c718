pub mod Maps
pub mod Joins
pub mod Scans
