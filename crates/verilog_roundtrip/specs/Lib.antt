pub mod Apart
pub mod GoodTokens
pub mod Sections
pub mod TypeLines
pub mod Whole
