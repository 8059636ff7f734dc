pub mod FieldLaws
pub mod WalkLaws
