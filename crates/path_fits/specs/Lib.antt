pub mod Sizes
pub mod PathsFit
