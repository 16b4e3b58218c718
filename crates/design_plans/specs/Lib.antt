pub mod DesignLaws
pub mod Planning
