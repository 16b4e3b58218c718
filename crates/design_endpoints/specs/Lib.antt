pub mod Endpoints
pub mod BindRules
