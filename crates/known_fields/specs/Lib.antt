pub mod Known
pub mod Check
