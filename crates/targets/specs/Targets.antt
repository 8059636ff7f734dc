-- The number of the message that the type name of a field names, by a table of declarations. Assumes nothing.
use Rattle.std.specs.Prelude.{ℕ, ◌-◌, ◌||◌, List, ltb}
use Rattle.base.specs.Choose.{choose}
use Rattle.descriptor.specs.Descriptor.{Bytes, FieldDescriptor}
use Rattle.descriptor.specs.Decode.{decode_field}
use Rattle.name_rules.specs.Accessors.{text, is_message, is_group}
use Rattle.index.specs.Tree.{row_at, row_bytes}
use Rattle.index.specs.declared.Row.{Row}
use Rattle.message_graph.specs.declared.Field.{Field}
use Rattle.field_columns.specs.Columns.{byte_of, owner_at, column_at, Kind, Label}
use Rattle.context_tables.specs.Rows.{is_set_at}
use Rattle.declarations.specs.Rows.{kind_number, row_at as declaration_at}
use Rattle.declarations.specs.declared.Declaration.{Declaration}
use Rattle.type_names.specs.declared.Sort.TheVariants as sorts
use Rattle.type_names.specs.LookUp.{find_row}

-- of the message with a full name, among the first count rows; 0 where there is none, and for a number over 255
unfoldable pub message_named : Bytes → List Declaration → ℕ → Bytes → ℕ
message_named set t count name = choose (ltb (find_row set t name sorts.Message count) count) (byte_of (kind_number (declaration_at t (find_row set t name sorts.Message count)).kind - 2)) 0

-- of a field's type; 0 where that is neither message nor group
unfoldable pub type_number : Bytes → List Declaration → ℕ → FieldDescriptor → ℕ
type_number set t count f = choose (is_message f || is_group f) (message_named set t count (text f.type_name)) 0

-- of field k of a table of fields
unfoldable pub target_at : Bytes → List Row → List Declaration → ℕ → ℕ → ℕ
target_at set fields t count k = type_number set t count (decode_field (row_bytes set (row_at fields k)))

-- field k, with a boxed setting where a table of bytes says so
abbrev pub field_in : Bytes → List Row → List Declaration → ℕ → List ℕ → ℕ → Field
field_in set places t count settings k = record {
  owner = owner_at places k;
  target = target_at set places t count k;
  kind = column_at set places Kind k;
  label = column_at set places Label k;
  boxed = is_set_at settings k;
}
