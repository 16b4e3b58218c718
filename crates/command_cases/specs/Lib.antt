pub mod FoursLeft
pub mod SmallCommand
pub mod SmallLaws
