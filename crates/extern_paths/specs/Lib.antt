pub mod Split
pub mod ExternPaths
pub mod ProstTypes
pub mod Seen
