pub mod Labels
pub mod Origins
pub mod Facts
pub mod WalksEnd
pub mod Unmarked
pub mod BoxesStand
pub mod WrittenFields
pub mod Examples
