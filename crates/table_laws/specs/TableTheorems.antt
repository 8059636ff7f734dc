-- The two tables of a set within the limits, without refusals 6 and 7: each row says what the definitions by full names say. Assumes nothing.
use Rattle.std.specs.Prelude.{◌≡◌, Bool, true, false, ◌||◌, ℕ, ◌≤◌, ◌<◌, length, get_or, None, Ok}
use Rattle.std.proofs.Common.{sym, ◌∙◌, arith}
use Rattle.std.proofs.Math.Path.{ap, subst}
use mathlib.Core.List.{List}
use Rattle.writer.specs.Wrote.{Wrote}
use Rattle.descriptor.specs.Seen.{option_seen}
use Rattle.descriptor.specs.Descriptor.{FieldDescriptor, FileDescriptor}
use Rattle.descriptor.specs.Decode.{decode_field, decode_set}
use Rattle.descriptor.specs.Limits.{limit_passed}
use Rattle.options.specs.Settings.{Setting}
use Rattle.name_rules.specs.Accessors.{is_repeated, is_message, is_group}
use Rattle.name_rules.specs.FullNames.{Entry, set_entries}
use Rattle.name_rules.specs.Answer.{names}
use Rattle.index.specs.Tree.{Holds, all_members, row_at}
use Rattle.index.specs.declared.Row as index_row
use Rattle.index.proofs.SetLaws.{MessageTable}
use Rattle.message_graph.specs.Limit.{messages}
use Rattle.message_graph.specs.Fields.{Fields}
use Rattle.message_graph.specs.Tab.{tab}
use Rattle.field_columns.specs.Columns.{owner_at, column_at, Kind, Label}
use Rattle.field_columns.proofs.SetColumns.{fields_counted}
use Rattle.boxed_settings.specs.Flags.{set_flags}
use Rattle.context_laws.specs.At.{At, at_within, mem_of_at}
use Rattle.context_laws.specs.Tables.{Row, rows_of, number_of, type_name_of, settings_of}
use Rattle.context_laws.proofs.Rows.{find_owner}
use Rattle.text_tables.specs.Rows.{message_row, field_row, place_bytes}
use Rattle.text_tables.specs.declared.MessageRow.{MessageRow}
use Rattle.text_tables.specs.declared.FieldRow.{FieldRow}
use Rattle.code_generator.specs.Oneofs.{oneof_of}
use Rattle.table_says.specs.Says.{MessageSays, FieldSays, FieldLies, PlaceSays}
use Rattle.context_tables.specs.Rows.{is_set_at, entry_at, message_row_of, oneof_index, oneof_at, field_row_of, columns, message_table, field_table}
use Rattle.table_laws.specs.RowLaws.{message_row_is, field_row_is}
use Rattle.table_laws.specs.SetTables.{sound, field_there}
use Rattle.table_laws.specs.FitLaws.{Within, within_limits}
use Rattle.table_laws.specs.SettingColumn.{settings_are}
use Rattle.table_laws.specs.NamedRows.{message_says, field_says}
use Rattle.table_laws.specs.EntryPlaces.{no_place, place_says}
use Rattle.table_laws.specs.OneofLaws.{oneof_fits}

-- `rows` and `fields_table` as index leaves them, with room for all rows; the target column, which may have any number where a field's type is
-- neither message nor group; and the buffer that `boxed_settings` wrote, with room for all fields
module _ (set : List ℕ) (rows : List index_row.Row) (count : ℕ) (table : MessageTable set rows count) (t fields_table : List index_row.Row) (n : ℕ)
    (holds : Holds (all_members set 2 rows count 0) t 0 fields_table n) (room : n ≤ length t)
    (passed : limit_passed set ≡ 0) (good : names (decode_set set) ≡ Ok tt)
    (target : List ℕ) (targets : (r : Row) (k : ℕ) → At r (rows_of (set_entries (decode_set set))) k → (is_message r.field || is_group r.field) ≡ true → get_or target k 0 ≡ number_of (set_entries (decode_set set)) (type_name_of r))
    (rs : List Setting) (buffer bytes : List ℕ) (end : ℕ) (wrote : Wrote buffer 0 (set_flags rs set) bytes end) (space : n ≤ length buffer) where
  abbrev ds : List FileDescriptor
  ds = decode_set set

  abbrev es : List Entry
  es = set_entries ds

  limits : Within set
  limits = within_limits set passed

  -- the columns as `fill_owners`, `fill_columns` and `fill_settings` fill them, each with n places
  abbrev pub over_fields : Fields
  over_fields = columns (tab n (owner_at fields_table)) target (tab n (column_at set fields_table Kind)) (tab n (column_at set fields_table Label))

  abbrev pub settings : List Bool
  settings = tab n (is_set_at bytes)

  settings_is : settings ≡ settings_of rs es
  settings_is = settings_are rs set limits.fit buffer bytes end wrote n (fields_counted set rows count table t fields_table n holds room) space

  -- message i
  pub message_table_says : {e : Entry} {i : ℕ} → At e es i → (size : ℕ) → i < size → MessageSays rs ds e i (message_row (message_table size rows fields_table n over_fields settings) i)
  unfolding message_table
  message_table_says {e} {i} p size there =
      let within = at_within p in
      let few = (sound set rows count table t fields_table n holds room limits.messages good).few in
      subst (λ (x : List Bool). MessageSays rs ds e i (message_row (message_table size rows fields_table n over_fields x) i)) (sym settings_is)
      (message_says set rows count table t fields_table n holds room limits.messages good target targets rs p size messages there (omega arith))

  -- the number behind those nested in it is that of its row (AfterLaws)
  pub message_table_after : {e : Entry} {i : ℕ} → At e es i → (size : ℕ) → i < size → (message_row (message_table size rows fields_table n over_fields settings) i).after ≡ (row_at rows i).after
  unfolding message_table message_row_of
  message_table_after {e} {i} p size there = ap (λ (x : MessageRow). x.after) (message_row_is rows _ _ _ size i there)

  -- field k; m: how far the table of boxes goes
  pub field_table_says : {r : Row} {k : ℕ} → At r (rows_of es) k → (size m : ℕ) → k < size → k < m → (entries : List Bool) → FieldSays rs ds r (field_row (field_table size m set rows fields_table over_fields settings entries) k)
  unfolding field_table
  field_table_says {r} {k} p size m there boxed entries =
      subst (λ (x : List Bool). FieldSays rs ds r (field_row (field_table size m set rows fields_table over_fields x entries) k)) (sym settings_is)
      (field_says set rows count table t fields_table n holds room limits.messages good target targets rs p size m there boxed entries)

  -- the place of its map entry, with the messages' flags as `fill_entries` fills them
  pub field_table_place : {r : Row} {k : ℕ} → At r (rows_of es) k → is_message r.field ≡ true → {e : Entry} {j : ℕ} → At e es j → e.full ≡ type_name_of r → (size m : ℕ) → k < size
      → PlaceSays set (is_repeated r.field) e.message (field_row (field_table size m set rows fields_table over_fields settings (tab messages (entry_at set rows))) k)
  unfolding field_table
  field_table_place p is q typed size m there =
      place_says set rows count table t fields_table n holds room limits.messages good target targets p is q typed _ _ _ _ size there

  pub field_table_no_place : {r : Row} {k : ℕ} → At r (rows_of es) k → is_message r.field ≡ false → (size m : ℕ) → k < size
      → (field_row (field_table size m set rows fields_table over_fields settings (tab messages (entry_at set rows))) k).entry ≡ None
  unfolding field_table
  field_table_no_place p is size m there =
      no_place set rows count table t fields_table n holds room limits.messages good target targets p is _ _ _ _ size there

  -- where its own part lies, and its oneof
  pub field_table_lies : {r : Row} {k : ℕ} → At r (rows_of es) k → (size m : ℕ) → k < size → (entries : List Bool)
      → FieldLies set r.field (field_row (field_table size m set rows fields_table over_fields settings entries) k)
  unfolding field_table field_row_of oneof_at
  field_table_lies {r} {k} p size m there entries =
      let is = field_row_is set rows fields_table _ _ _ _ _ _ _ entries size k there in
      let own = field_there set rows count table t fields_table n holds room limits.messages good p in
      record {
        there = ap (λ (x : FieldRow). decode_field (place_bytes set x.place)) is ∙ own;
        oneof = ap (λ (x : FieldRow). option_seen x.oneof) is
            ∙ ap (λ (f : FieldDescriptor). option_seen (oneof_index (oneof_of f))) own
            ∙ oneof_fits set table.small good r.field (find_owner 0 es r (mem_of_at p)).field;
      }
