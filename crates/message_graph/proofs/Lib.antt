pub mod RowLaws
pub mod Visits
