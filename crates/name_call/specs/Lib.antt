pub mod Differ
pub mod NameTheorem
pub mod Answer
