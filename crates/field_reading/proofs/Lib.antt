pub mod TagReading
pub mod FieldReading
