pub mod Descriptor
pub mod Decode
pub mod Limits
pub mod Accessors
pub mod Steps
pub mod Seen
pub mod Places
