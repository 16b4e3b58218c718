mod ActionLemmas
pub mod InputLemmas
mod LineLemmas
mod TableLemmas
