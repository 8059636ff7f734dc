pub mod Tally
pub mod Compared
pub mod Code
pub mod Seen
pub mod Pack
pub mod Lines
pub mod Hex
