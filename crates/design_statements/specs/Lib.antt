pub mod StatementValues
pub mod StatementReading
pub mod StatementLaw
pub mod StatementSteps
pub mod StatementTexts
