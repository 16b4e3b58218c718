pub mod BodyLaws
pub mod BreakLaws
pub mod ReportLaws
