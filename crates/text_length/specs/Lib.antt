pub mod Lengths
pub mod Names
pub mod Paths
pub mod Fields
pub mod Declarations
pub mod Messages
pub mod Bound
