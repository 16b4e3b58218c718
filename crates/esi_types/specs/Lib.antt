pub mod Directory
pub mod GoodTypes
