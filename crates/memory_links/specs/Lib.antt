pub mod Conns
pub mod Plays
pub mod Told
