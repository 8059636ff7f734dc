pub mod RowCounts
pub mod NameAnswers
