pub mod LineRules
pub mod RuleNumbers
pub mod Stimulus
