pub mod Blocked
pub mod Decoding
pub mod Polling
pub mod Sending
pub mod Reported
