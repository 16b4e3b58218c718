pub mod RowMarks
pub mod MarkLaws
pub mod WithinLaws
pub mod EndedLaws
pub mod BrokenLaws
