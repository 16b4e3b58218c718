pub mod CycleLemmas
pub mod Entries
pub mod Holdings
pub mod HubCycle
pub mod RingLemmas
pub mod Runs
