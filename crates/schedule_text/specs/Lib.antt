pub mod RuleNumbers
pub mod ScheduleLines
pub mod ScheduleReading
