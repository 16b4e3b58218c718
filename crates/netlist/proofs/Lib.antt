pub mod SettlingLemmas
