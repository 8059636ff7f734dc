-- The two tables that the text's writers read, from the bytes of a set and of the options. Assumes nothing.
use Rattle.std.specs.Prelude.{ℕ, ◌≤◌, min, Bool, false, ◌≡◌, List, ◌++◌, ltb, length, drop, replicate}
use Rattle.base.specs.Choose.{choose}
use Rattle.writer.specs.Wrote.{over}
use Rattle.limits.specs.Short.{short}
use Rattle.options.specs.Settings.{Setting}
use Rattle.text_tables.specs.Rows.{no_field}
use Rattle.text_tables.specs.declared.MessageRow.{MessageRow}
use Rattle.text_tables.specs.declared.FieldRow.{FieldRow}
use Rattle.index.specs.Tree.{file_forests, total, rows_of, fill, no_row, all_members}
use Rattle.index.specs.declared.Row.{Row}
use Rattle.message_graph.specs.Limit.{messages}
use Rattle.message_graph.specs.Fields.{Fields}
use Rattle.message_graph.specs.Tab.{tab}
use Rattle.field_columns.specs.Columns.{owner_at, column_at, Kind, Label}
use Rattle.declarations.specs.Rows.{no_row as no_declaration, declared}
use Rattle.declarations.specs.declared.Declaration.{Declaration}
use Rattle.boxed_settings.specs.Flags.{set_flags}
use Rattle.message_graph.specs.declared.Field.{Field}
use Rattle.targets.specs.Targets.{target_at, field_in}
use Rattle.context_tables.specs.Rows.{is_set_at, entry_at, columns, message_table, field_table}

-- limit 4, and what a short set has at most
unfoldable pub most_fields : List ℕ → ℕ
most_fields set = choose (ltb short (length set)) 2048 150

-- files and declarations: a row for each, and for one more
unfoldable pub declaration_rows : List ℕ → ℕ
declaration_rows set = choose (ltb short (length set)) 545 151

abbrev pub blank_rows : ℕ → List Declaration
blank_rows n = replicate n no_declaration

unfoldable pub zeros : ℕ → List ℕ
zeros n = replicate n 0

-- a table of rows that hold nothing
abbrev pub no_rows : ℕ → List Row
no_rows n = replicate n no_row

-- the places of the messages, of at most 256
unfoldable pub message_places : List ℕ → List Row
message_places set = fill (no_rows 256) 0 (rows_of 0 0 (file_forests 4 16 set))

unfoldable pub message_count : List ℕ → ℕ
message_count set = total (file_forests 4 16 set)

-- the places of the fields
unfoldable pub field_places : List ℕ → List Row
field_places set = fill (no_rows (most_fields set)) 0 (all_members set 2 (message_places set) (message_count set) 0)

unfoldable pub field_count : List ℕ → ℕ
field_count set = length (all_members set 2 (message_places set) (message_count set) 0)

-- the message that the type of field k is, given the places of the fields and a table for the declarations
unfoldable pub target_by : List ℕ → List Row → List Declaration → ℕ → ℕ
target_by set fields t k = target_at set fields (declared set t).table (declared set t).rows k

abbrev pub target_in : List ℕ → List Row → ℕ → ℕ
target_in set fields = target_by set fields (blank_rows (declaration_rows set))

-- the bytes that have the boxed settings
unfoldable pub setting_bytes : List ℕ → List Setting → List ℕ
setting_bytes set rs = over (zeros (most_fields set)) 0 (set_flags rs set)

-- field k, given the places of the fields, a table for the declarations, and the bytes that have the boxed settings
abbrev pub field_by : List ℕ → List Row → List Declaration → List ℕ → ℕ → Field
field_by set places t settings = field_in set places (declared set t).table (declared set t).rows settings

abbrev pub field_of : List ℕ → List Setting → List Row → ℕ → Field
field_of set rs places = field_by set places (blank_rows (declaration_rows set)) (setting_bytes set rs)

-- the columns over the first k fields, given their places
unfoldable pub columns_at : ℕ → List ℕ → List Row → Fields
columns_at k set fields =
    columns (tab k (owner_at fields)) (tab k (target_in set fields)) (tab k (column_at set fields Kind)) (tab k (column_at set fields Label))

abbrev pub columns_to : ℕ → List ℕ → Fields
columns_to k set = columns_at k set (field_places set)

-- the places of the messages, and what the fields are laid in
pub record Ready (set : List ℕ) (rows : List Row) (count : ℕ) (places : List Row) (fields : List Field) (boxed : List Bool) : Type 0 where
  pub placed : rows ≡ message_places set
  pub counted : count ≡ message_count set
  pub cleared : places ≡ no_rows (most_fields set)
  pub sized : length fields ≡ most_fields set
  pub boxes : length boxed ≡ most_fields set

-- flags for the messages, none of them set
abbrev pub no_flags : List Bool
no_flags = replicate messages false

-- only the first count messages may be map entries
abbrev pub EntriesBelow : ℕ → List ℕ → List Row → Type 0
EntriesBelow count set rows = (i : ℕ) → count ≤ i → entry_at set rows i ≡ false

-- which messages are map entries, given their places
abbrev pub entries_by : List ℕ → List Row → List Bool
entries_by set rows = tab messages (entry_at set rows)

unfoldable pub settings_to : ℕ → List ℕ → List Setting → List Bool
settings_to n set rs = tab n (is_set_at (setting_bytes set rs))

abbrev pub columned : List ℕ → ℕ
columned set = min (field_count set) (most_fields set)

-- how many rows there are for the fields, in a table of so many
abbrev pub used : ℕ → List ℕ → ℕ
used size set = min (columned set) size

-- ---- the tables, of so many rows; rs: the rows of the options

unfoldable pub message_rows : ℕ → List ℕ → List Setting → List MessageRow
message_rows size set rs = message_table size (message_places set) (field_places set) (field_count set) (columns_to (columned set) set) (settings_to (columned set) set rs)

-- the rows of the fields, and behind them what the table t held there
unfoldable pub field_rows_in : List FieldRow → List ℕ → List Setting → List FieldRow
field_rows_in t set rs =
    field_table (used (length t) set) (columned set) set (message_places set) (field_places set) (columns_to (columned set) set) (settings_to (columned set) set rs)
    (entries_by set (message_places set))
    ++ drop (used (length t) set) t

-- and nothing behind them
unfoldable pub field_rows : ℕ → List ℕ → List Setting → List FieldRow
field_rows size set rs = field_rows_in (replicate size no_field) set rs
