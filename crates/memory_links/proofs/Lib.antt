pub mod ChangedConns
pub mod HeldLaws
pub mod PlayLaws
pub mod StepsLeft
pub mod ReadLogs
