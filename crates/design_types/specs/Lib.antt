pub mod TypeReading
pub mod TypeLaw
pub mod TypeSteps
pub mod TypeMeaning
pub mod GoodTypes
