pub mod Reading
pub mod Written
