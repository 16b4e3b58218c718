pub mod Numbers
pub mod Placings
pub mod Notes
pub mod OrderLaws
pub mod Reaching
