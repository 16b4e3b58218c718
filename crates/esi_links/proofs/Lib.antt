pub mod GrowthJoined
pub mod LogJoined
pub mod LogSteps
pub mod PieceRead
