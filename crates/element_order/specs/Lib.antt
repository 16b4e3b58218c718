pub mod Laws
pub mod Orders
pub mod Reached
pub mod Worklists
