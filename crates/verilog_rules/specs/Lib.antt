pub mod Rules
pub mod Dues
