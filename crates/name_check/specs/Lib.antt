pub mod NameCheck
pub mod Examples
