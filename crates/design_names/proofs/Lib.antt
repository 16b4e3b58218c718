pub mod RuleLaws
pub mod ReferenceSteps
pub mod UnusedSteps
