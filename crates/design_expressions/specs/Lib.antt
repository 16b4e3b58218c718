pub mod ExpressionValues
pub mod ExpressionReading
pub mod ExpressionTrees
pub mod WithinLimits
pub mod ExpressionLaw
pub mod ExpressionSteps
pub mod ExpressionTexts
