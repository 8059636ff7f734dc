pub mod PartLaws
pub mod EnumLaws
pub mod OverlapLaws
pub mod SumLaws
