pub mod TagLaws
pub mod PathLaws
pub mod FieldLaws
