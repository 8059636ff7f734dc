pub mod Symbols
pub mod Tokens
pub mod Reader
pub mod Examples
