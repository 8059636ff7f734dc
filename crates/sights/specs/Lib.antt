pub mod Events
pub mod Sights
pub mod Unmarked
pub mod Examples
