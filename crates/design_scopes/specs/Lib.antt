pub mod Bodies
pub mod Flat
pub mod Tables
pub mod Resolving
