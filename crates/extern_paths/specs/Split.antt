-- Rust's `split`, as crate split has it. Assumes nothing.
unfoldable pub use Rattle.split.specs.Split.{begins, split_behind, split, first_part}
pub use Rattle.split.specs.Split.{push}
