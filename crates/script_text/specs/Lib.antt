pub mod RuleNumbers
pub mod ScriptLines
pub mod ScriptReading
