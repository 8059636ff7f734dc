-- What code holds, without where it lies in memory: its options are those of the definitions, and the bytes behind a reference are bytes.
pub use Rattle.base.specs.Given.{option_seen, text_seen}
