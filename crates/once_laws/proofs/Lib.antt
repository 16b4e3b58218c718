mod Sums
mod Lists
mod Orders
mod Sides
mod Kept
mod Matched
mod Bindings
mod Named
mod Placed
mod Modules
mod Rules
pub mod Accepting
pub mod StageBody
