pub mod Requests
pub mod Modules
