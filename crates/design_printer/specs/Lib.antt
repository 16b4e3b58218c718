pub mod Canonical
pub mod Examples
pub mod Printers
pub mod TextFrom
pub mod CutAgain
pub mod TextTokens
pub mod PrintableTypes
pub mod TypeTexts
