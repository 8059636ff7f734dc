pub mod StartLaws
pub mod SetColumns
pub mod EntryLaws
pub mod NameLaws
pub mod FilledLaws
