pub mod Marks
pub mod Numbered
