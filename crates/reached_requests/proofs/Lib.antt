pub mod Finding
pub mod KnownLaws
