-- The rows of the tables that the text's writers read. Assumes nothing.
use Rattle.std.specs.Prelude.{ℕ, Bool, false, not, List, Option, Some, None, eqb, ltb, get_or}
use Rattle.std.proofs.Math.Option as math
use Rattle.base.specs.Choose.{choose}
use Rattle.descriptor.specs.Decode.{decode_field, decode_message}
use Rattle.index.specs.Tree.{row_at, row_bytes}
use Rattle.index.specs.declared.Row.{Row}
use Rattle.message_graph.specs.Limit.{messages}
use Rattle.message_graph.specs.Fields.{Fields, fields, message_at, type_message, label_repeated}
use Rattle.message_graph.specs.Boxes.{boxed_by_loop}
use Rattle.message_graph.specs.Tab.{tab}
use Rattle.derives.specs.declared.Derive.{Derive}
use Rattle.derives.specs.declared.Derive.TheVariants.{Copy, Eq}
use Rattle.derives.specs.Rules.{rule}
use Rattle.derives.specs.Can.{can_message_derive}
use Rattle.field_columns.specs.Columns.{start_at}
use Rattle.text_tables.specs.declared.MessageRow.{MessageRow}
use Rattle.text_tables.specs.declared.Place.{Place}
use Rattle.text_tables.specs.declared.FieldRow.{FieldRow}
use Rattle.code_generator.specs.Oneofs.{oneof_of}

-- has the field a boxed setting, by a table of bytes?
unfoldable pub is_set_at : List ℕ → ℕ → Bool
is_set_at bytes i = not (eqb (get_or bytes i 0) 0)

-- is message i a map entry?
unfoldable pub entry_at : List ℕ → List Row → ℕ → Bool
entry_at set rows i = (decode_message (row_bytes set (row_at rows i))).map_entry

-- ---- a message

unfoldable pub message_row_of : List Row → List ℕ → List Bool → List Bool → ℕ → MessageRow
message_row_of rows first copy eq i = record {
  copy = get_or copy i false;
  eq = get_or eq i false;
  first = get_or first i 0;
  after = (row_at rows i).after;
}

-- ---- a field

unfoldable pub field_can : Derive → List ℕ → List ℕ → List ℕ → List Bool → List Bool → List Bool → ℕ → Bool
field_can d target kind label boxed settings can k =
    rule d (get_or kind k 0) (get_or label k 0) (get_or boxed k false) (get_or settings k false) (get_or can (message_at target k) false)

-- a repeated field of type message whose type is a map entry
unfoldable pub names_entry : List ℕ → List ℕ → List ℕ → List Bool → ℕ → Bool
names_entry target kind label entries k =
    choose (eqb (get_or kind k 0) type_message)
    (choose (eqb (get_or label k 0) label_repeated) (get_or entries (message_at target k) false) false)
    false

-- where a row's declaration lies
abbrev pub place_of : Row → Place
place_of row = record { start = row.start; end = row.end }

-- where the map entry lies that the field names
unfoldable pub entry_place : List Row → List ℕ → List ℕ → List ℕ → List Bool → ℕ → Option Place
entry_place rows target kind label entries k =
    choose (names_entry target kind label entries k) (Some (place_of (row_at rows (message_at target k)))) None

-- the index of a oneof, where a row has room for it
unfoldable pub oneof_index : math.Option ℕ → Option ℕ
oneof_index math.none = None
oneof_index (math.some i) = choose (ltb i 65536) (Some i) None

-- that of field k, by the table of fields
unfoldable pub oneof_at : List ℕ → List Row → ℕ → Option ℕ
oneof_at set table k = oneof_index (oneof_of (decode_field (row_bytes set (row_at table k))))

unfoldable pub field_row_of : List ℕ → List Row → List Row → List ℕ → List ℕ → List ℕ → List Bool → List Bool → List Bool → List Bool → List Bool → ℕ → FieldRow
field_row_of set rows table target kind label boxed settings copy eq entries k = record {
  looped = get_or boxed k false;
  copy = field_can Copy target kind label boxed settings copy k;
  eq = field_can Eq target kind label boxed settings eq k;
  place = place_of (row_at table k);
  entry = entry_place rows target kind label entries k;
  oneof = oneof_at set table k;
}

-- ---- both tables, from the columns over the fields

abbrev pub columns : List ℕ → List ℕ → List ℕ → List ℕ → Fields
columns owner target kind label = fields owner target kind label

abbrev pub can : Derive → Fields → List Bool → List Bool
can d f settings = tab messages (can_message_derive d f settings)

-- size rows; n is how many rows the table of fields has
unfoldable pub message_table : ℕ → List Row → List Row → ℕ → Fields → List Bool → List MessageRow
message_table size rows table n f settings = tab size (message_row_of rows (tab messages (start_at table n)) (can Copy f settings) (can Eq f settings))

-- size rows; m is how far the table of boxes goes
unfoldable pub field_table : ℕ → ℕ → List ℕ → List Row → List Row → Fields → List Bool → List Bool → List FieldRow
field_table size m set rows table f settings entries =
    tab size (field_row_of set rows table f.target f.kind f.label (tab m (boxed_by_loop f)) settings (can Copy f settings) (can Eq f settings) entries)
