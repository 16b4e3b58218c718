pub mod Bare
pub mod Examples
pub mod InputWidths
pub mod LoweredPorts
pub mod PassInputs
