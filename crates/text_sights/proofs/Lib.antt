pub mod FieldReads
pub mod TextReads
