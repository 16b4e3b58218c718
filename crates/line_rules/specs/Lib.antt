pub mod LineTests
pub mod RuleLaws
pub mod TextRules
pub mod Shapes
