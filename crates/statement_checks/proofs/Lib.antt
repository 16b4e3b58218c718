pub mod VariableSteps
