pub mod EntryLaws
pub mod TreeLaws
