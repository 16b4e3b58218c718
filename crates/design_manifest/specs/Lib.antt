pub mod Manifest
