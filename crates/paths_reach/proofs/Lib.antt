pub mod Hits
pub mod PathsReach
pub mod Examples
