pub mod Planned
pub mod TypesFit
pub mod Rows
