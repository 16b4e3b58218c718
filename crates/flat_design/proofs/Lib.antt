pub mod Counting
pub mod Laid
pub mod Totals
pub mod Balances
pub mod Fittings
