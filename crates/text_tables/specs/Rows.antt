-- What the text's writers read of a message and of a field, by their numbers in declaration order. Assumes nothing.
use Rattle.std.specs.Prelude.{ℕ, ◌-◌, Bool, true, false, List, Option, Some, None, eqb, get_or}
use Rattle.wire.specs.Records.{part}
use Rattle.text_tables.specs.declared.MessageRow.{MessageRow}
use Rattle.text_tables.specs.declared.Place.{Place}
use Rattle.text_tables.specs.declared.FieldRow.{FieldRow}

-- what the tables have past their ends
abbrev pub no_message : MessageRow
no_message = record { copy = false; eq = false; first = 0; after = 0 }

abbrev pub no_field : FieldRow
no_field = record { looped = false; copy = false; eq = false; place = record { start = 0; end = 0 }; entry = None; oneof = None }

-- message i
abbrev pub message_row : List MessageRow → ℕ → MessageRow
message_row rows i = get_or rows i no_message

-- field k
abbrev pub field_row : List FieldRow → ℕ → FieldRow
field_row rows k = get_or rows k no_field

-- the bytes at a place of the set
abbrev pub place_bytes : List ℕ → Place → List ℕ
place_bytes set p = part set p.start (p.end - p.start)

-- is a field in no oneof?
unfoldable pub in_none : Option ℕ → Bool
in_none None = true
in_none (Some i) = false

abbrev pub is_plain : FieldRow → Bool
is_plain row = in_none row.oneof

-- is it in the oneof with the index?
unfoldable pub in_one : ℕ → Option ℕ → Bool
in_one index None = false
in_one index (Some i) = eqb i index

abbrev pub is_in : ℕ → FieldRow → Bool
is_in index row = in_one index row.oneof
