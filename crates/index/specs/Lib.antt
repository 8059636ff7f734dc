pub mod Tree
pub mod Owners
