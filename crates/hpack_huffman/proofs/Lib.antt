pub mod AnswerFacts
pub mod CodeFacts
pub mod PutsLemmas
pub mod Rows
pub mod WordTables
