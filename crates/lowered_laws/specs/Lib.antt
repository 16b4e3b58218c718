pub mod Standing
pub mod Rows
pub mod CycleLemmas
pub mod StandingLemmas
pub mod RowLemmas
