pub mod MakerLaws
pub mod NeedLaws
pub mod CycleLaws
pub mod SignalLaws
pub mod BodyLaws
