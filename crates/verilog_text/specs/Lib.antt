pub mod Blanks
pub mod Examples
pub mod Interfaces
pub mod Laying
pub mod Layout
pub mod LayoutLaws
pub mod Texts
