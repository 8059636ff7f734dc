pub mod Accessors
pub mod Rules
pub mod FullNames
pub mod MapEntries
pub mod Answer
pub mod WellFormed
