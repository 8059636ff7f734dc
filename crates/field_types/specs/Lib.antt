pub mod Types
pub mod Words
