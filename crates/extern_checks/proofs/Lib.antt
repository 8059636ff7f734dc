pub mod DoubleLaws
pub mod GapLaws
