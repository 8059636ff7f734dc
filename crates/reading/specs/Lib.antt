pub mod Reading
pub mod Words
pub mod Paths
pub mod Types
pub mod Strings
pub mod Tags
