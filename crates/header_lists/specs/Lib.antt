pub mod Fields
pub mod HeaderLists
pub mod Scans
