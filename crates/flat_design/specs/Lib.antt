pub mod Fitting
pub mod FlatLaws
pub mod Laying
pub mod OnceLemmas
