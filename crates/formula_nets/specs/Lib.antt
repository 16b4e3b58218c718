pub mod Making
pub mod Posting
pub mod MadeLaws
pub mod FitLaws
pub mod PostedLaws
