pub mod FieldLaws
pub mod RowLaws
pub mod FileLaws
pub mod CountLaws
pub mod SevenLaws
