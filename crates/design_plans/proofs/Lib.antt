pub mod Along
pub mod Goodness
