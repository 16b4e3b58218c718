pub mod TypesOf
pub mod GoodTypes
pub mod Fitting
