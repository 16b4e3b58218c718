pub mod VoidWalk
pub mod OctetWalk
pub mod Laying
pub mod Taking
