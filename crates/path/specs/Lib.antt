pub mod Forms
pub mod PathMap
pub mod Worth
