pub mod Extents
pub mod Inputs
pub mod Interfaces
pub mod NoInputs
pub mod Ports
pub mod Whole
