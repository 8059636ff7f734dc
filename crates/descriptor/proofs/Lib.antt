pub mod PartLaws
pub mod EntriesLaws
pub mod StepLaws
pub mod Examples
pub mod SegmentLaws
