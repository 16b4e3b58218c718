pub mod Examples
pub mod FifoLemmas
pub mod WireLaws
pub mod WireLemmas
pub mod Wires
