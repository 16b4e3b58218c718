pub mod FieldRules
pub mod ListRules
