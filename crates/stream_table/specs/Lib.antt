pub mod IndexLaws
pub mod Rows
