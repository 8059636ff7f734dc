pub mod Varint
pub mod Step
pub mod Records
pub mod Encoding
pub mod Contents
pub mod Readers
pub mod Value
pub mod Message
