pub mod BodyLists
pub mod Finding
pub mod Found
pub mod Resolved
