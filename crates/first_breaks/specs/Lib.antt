pub mod Dependence
pub mod Places
pub mod Breaks
pub mod Laws
