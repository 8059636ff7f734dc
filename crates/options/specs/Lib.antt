pub mod Kinds
pub mod Kind
pub mod Found
pub mod Settings
pub mod Rows
pub mod Layout
