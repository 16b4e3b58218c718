pub mod Written
pub mod Lengths
pub mod Loops
pub mod Spans
pub mod Texts
