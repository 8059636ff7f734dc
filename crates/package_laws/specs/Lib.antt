pub mod PlaceLaws
pub mod PackageLaws
pub mod SegmentLaws
