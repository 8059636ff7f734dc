pub mod PartLaws
pub mod CutLaws
