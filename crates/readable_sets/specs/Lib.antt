pub mod Dots
pub mod ReadableSets
pub mod Examples
