pub mod Reader
pub mod Requests
