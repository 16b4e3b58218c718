pub mod Repeats
pub mod Decimals
