pub mod DesignValues
pub mod DesignReading
pub mod DesignLaw
pub mod DesignSteps
pub mod DesignTexts
