pub mod Hexadecimal
pub mod HexadecimalLaws
pub mod LineLaws
pub mod Lines
pub mod Numbers
