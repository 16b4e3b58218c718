mod Members
mod Bodies
pub mod Few
