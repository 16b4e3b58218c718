pub mod Cycles
pub mod Registers
pub mod Sessions
pub mod Steps
pub mod Walks
