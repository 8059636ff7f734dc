pub mod FileParts
pub mod Numbered
