pub mod LogLines
pub mod LogReading
pub mod RuleNumbers
