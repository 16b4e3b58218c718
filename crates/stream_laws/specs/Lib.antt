pub mod NoData
pub mod Windows
pub mod Marks
pub mod Ended
