-- What a `Context` gives, without where it lies in memory. Assumes nothing.
use Rattle.std.specs.Prelude.{List}
use Rattle.descriptor.specs.Descriptor.{Bytes}
use Rattle.options.specs.Settings.{Setting}
use Rattle.text_tables.specs.declared.MessageRow.{MessageRow}
use Rattle.text_tables.specs.declared.FieldRow.{FieldRow}

-- the rows of the options, the bytes of the set, and the tables of its messages and of its fields
pub record Given : Type 0 where
  pub options : List Setting
  pub set : Bytes
  pub messages : List MessageRow
  pub fields : List FieldRow
