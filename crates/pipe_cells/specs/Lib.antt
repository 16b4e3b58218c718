pub mod CellWords
pub mod Cells
pub mod CellsLast
pub mod CellsOrder
pub mod PipeRings
pub mod PipeRun
pub mod TakesLemmas
