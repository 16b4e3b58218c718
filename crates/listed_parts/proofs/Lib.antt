pub mod Operations
pub mod Resolved
pub mod Walk
pub mod Placed
