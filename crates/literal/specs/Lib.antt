pub mod Escape
pub mod HexLaws
pub mod EscapeCases
pub mod Quotes
pub mod Reference
pub mod Reading
pub mod Passes
