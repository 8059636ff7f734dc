pub mod At
pub mod Tables
pub mod Numbers
pub mod Rows
pub mod Links
pub mod SoundSets
pub mod Ranges
pub mod Examples
