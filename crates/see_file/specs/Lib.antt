pub mod EnumReading
pub mod MessageReading
pub mod SeeFile
