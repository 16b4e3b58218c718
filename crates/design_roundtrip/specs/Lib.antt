pub mod ListTokens
pub mod TypeTokens
pub mod ExpressionTokens
pub mod StatementTokens
pub mod DeclarationTokens
pub mod Alike
pub mod Usable
pub mod RoundTrip
