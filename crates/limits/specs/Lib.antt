pub mod Sums
pub mod Weights
pub mod Fits
pub mod Answer
pub mod Short
