pub mod LoweredModules
