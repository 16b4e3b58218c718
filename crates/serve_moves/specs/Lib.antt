pub mod Filled
pub mod FilledLaws
pub mod FilledSessions
pub mod Growing
pub mod Journaled
pub mod JournaledLaws
pub mod Quiet
pub mod Tails
