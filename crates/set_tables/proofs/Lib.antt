pub mod ZeroLaws
pub mod FillLaws
pub mod EntryLaws
pub mod TablesSay
