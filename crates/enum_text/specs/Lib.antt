pub mod EnumText
pub mod Overlap
