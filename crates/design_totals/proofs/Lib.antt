pub mod CappedLaws
pub mod DesignLaws
