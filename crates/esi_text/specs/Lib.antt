pub mod DesignAnswers
pub mod DesignNumbers
pub mod Designs
pub mod MeaningLaws
pub mod ReaderLaws
pub mod RuleNumbers
pub mod TypesGood
pub mod TypesIn
