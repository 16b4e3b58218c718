mod Places
mod Steps
mod Outs
mod Blocks
mod Spans
mod Made
mod Used
pub mod AheadLaws
pub mod OnceLaws
