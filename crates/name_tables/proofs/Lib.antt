pub mod KeyOrder
pub mod Walks
pub mod Tables
