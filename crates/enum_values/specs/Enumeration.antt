-- An enum as it is written. Assumes nothing.
use Rattle.std.specs.Prelude.{List}
use Rattle.descriptor.specs.Descriptor.{Bytes, ValueDescriptor}

-- its full name, its own, and its values that are kept
pub record Enumeration : Type 0 where
  pub full : Bytes
  pub name : Bytes
  pub values : List ValueDescriptor
