pub mod Channels
pub mod DriveViews
pub mod Plans
pub mod Views
