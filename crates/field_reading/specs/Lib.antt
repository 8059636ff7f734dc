pub mod Readable
pub mod TypeReading
