-- Where a field's row says that its map entry lies. Assumes nothing.
use Rattle.std.specs.Prelude.{◌≡◌, refl, Bool, ◌||◌, List, [], ℕ, ◌≤◌, ◌<◌, length, None, Ok}
use Rattle.std.proofs.Common.{sym, ◌∙◌, arith}
use Rattle.std.proofs.Math.Path.{ap}
use Rattle.std.proofs.Math.Bool.{true, false}
use Rattle.std.proofs.Math.ListN.{get_or}
use Rattle.base.specs.Choose.{choose}
use Rattle.base.specs.Lists.{map_length}
use Rattle.base.specs.Tests.{both_ways, or_left}
use Rattle.wire.specs.Records.{records, scan}
use Rattle.descriptor.specs.Descriptor.{MessageDescriptor}
use Rattle.descriptor.specs.Decode.{entries_of, entries, parts, joined, last_from, decode_message, decode_set}
use Rattle.descriptor.specs.Limits.{messages_in, max_messages}
use Rattle.name_rules.specs.Accessors.{type, is_repeated, is_message, is_group}
use Rattle.name_rules.specs.Accessors as accessors
use Rattle.name_rules.specs.FullNames.{Entry, set_entries}
use Rattle.name_rules.specs.Answer.{names}
use Rattle.index.specs.Tree.{Holds, all_members, row_at, row_bytes}
use Rattle.index.specs.declared.Row as index_row
use Rattle.index.proofs.SetLaws.{MessageTable, message_rows, decode_row}
use Rattle.message_graph.specs.Limit.{messages}
use Rattle.message_graph.specs.Fields.{message_at}
use Rattle.message_graph.specs.Tab.{tab, tab_at}
use Rattle.field_columns.proofs.EntryLaws.{rows_entries, row_entry}
use Rattle.context_laws.specs.At.{At, at_within, at_get_or}
use Rattle.context_laws.specs.Tables.{Row, rows_of, number_of, type_name_of}
use Rattle.context_laws.specs.Numbers.{number_at}
use Rattle.text_tables.specs.Rows.{field_row}
use Rattle.text_tables.specs.declared.FieldRow.{FieldRow}
use Rattle.table_says.specs.Says.{PlaceSays}
use Rattle.context_tables.specs.Rows.{entry_at, names_entry, place_of, entry_place, field_row_of}
use Rattle.table_laws.specs.RowLaws.{field_row_is}
use Rattle.table_laws.specs.SetTables.{sound}
use Rattle.table_laws.specs.NamedRows.{columns, kind_at, label_at, target_at}

pub no_bytes : (decode_message []).map_entry ≡ false
unfolding decode_message entries entries_of records scan parts joined last_from choose
no_bytes = refl

pub chosen : (t b : Bool) → choose t b false ≡ true → b ≡ true
unfolding choose
chosen true b h = h
chosen false b h = both_ways h refl

module _ (set : List ℕ) (rows : List index_row.Row) (count : ℕ) (table : MessageTable set rows count) where
  abbrev es : List Entry
  es = set_entries (decode_set set)

  -- the row of entry j has its message
  pub row_message : {e : Entry} {j : ℕ} → At e es j → decode_message (row_bytes set (row_at rows j)) ≡ e.message
  row_message {e} {j} p =
      let within = at_within p in
      let counted = table.counted in
      let as_many : length (message_rows set) ≡ length es = sym (map_length (decode_row set) (message_rows set)) ∙ ap length (rows_entries set table.small) ∙ map_length (λ (x : Entry). x.message) es in
      row_entry set rows count table j (omega arith) e ∙ ap (λ (x : Entry). x.message) (at_get_or p e)

  module _ (t fields_table : List index_row.Row) (n : ℕ) (holds : Holds (all_members set 2 rows count 0) t 0 fields_table n) (room : n ≤ length t)
      (few : length (messages_in (decode_set set)) ≤ max_messages) (good : names (decode_set set) ≡ Ok tt)
      (target : List ℕ) (targets : (r : Row) (k : ℕ) → At r (rows_of es) k → (is_message r.field || is_group r.field) ≡ true → get_or target k 0 ≡ number_of es (type_name_of r)) where
    abbrev kind : List ℕ
    kind = (columns set rows count table t fields_table n holds room few good target targets).kind

    abbrev label : List ℕ
    label = (columns set rows count table t fields_table n holds room few good target targets).label

    -- `fill_entries` over the messages
    abbrev entry_flags : List Bool
    entry_flags = tab messages (entry_at set rows)

    module _ {r : Row} {k : ℕ} (p : At r (rows_of es) k) where
      kind_is : get_or kind k 0 ≡ type r.field
      kind_is = kind_at set rows count table t fields_table n holds room few good target targets p

      label_is : get_or label k 0 ≡ accessors.label r.field
      label_is = label_at set rows count table t fields_table n holds room few good target targets p

      no_names : is_message r.field ≡ false → names_entry target kind label entry_flags k ≡ false
      unfolding names_entry choose
      no_names is = rw (kind_is, is)

      -- a field of another type names none
      pub no_place : is_message r.field ≡ false → (boxed settings copy eq : List Bool) (size : ℕ) → k < size
          → (field_row (tab size (field_row_of set rows fields_table target kind label boxed settings copy eq entry_flags)) k).entry ≡ None
      unfolding field_row_of entry_place choose
      no_place is boxed settings copy eq size there =
          ap (λ (x : FieldRow). x.entry) (field_row_is set rows fields_table target kind label boxed settings copy eq entry_flags size k there) ∙ rw (no_names is)

      module _ (is : is_message r.field ≡ true) {e : Entry} {j : ℕ} (q : At e es j) (typed : e.full ≡ type_name_of r) where
        number : message_at target k ≡ j
        number =
            target_at set rows count table t fields_table n holds room few good target targets p (or_left (is_group r.field) is)
            ∙ ap (number_of es) (sym typed)
            ∙ number_at (sound set rows count table t fields_table n holds room few good).distinct q

        flagged : get_or entry_flags (message_at target k) false ≡ e.message.map_entry
        unfolding entry_at
        flagged =
            let within = at_within q in
            let most = (sound set rows count table t fields_table n holds room few good).few in
            ap (λ (x : ℕ). get_or entry_flags x false) number
            ∙ tab_at messages (entry_at set rows) false j (omega arith)
            ∙ ap (λ (m : MessageDescriptor). m.map_entry) (row_message q)

        named : names_entry target kind label entry_flags k ≡ choose (is_repeated r.field) e.message.map_entry false
        unfolding names_entry choose
        named = rw (kind_is, is, label_is, flagged)

        module _ (boxed settings copy eq : List Bool) (size : ℕ) (there : k < size) where
          abbrev row : FieldRow
          row = field_row (tab size (field_row_of set rows fields_table target kind label boxed settings copy eq entry_flags)) k

          pub place_says : PlaceSays set (is_repeated r.field) e.message row
          unfolding field_row_of entry_place choose
          place_says =
              let entry_is = ap (λ (x : FieldRow). x.entry) (field_row_is set rows fields_table target kind label boxed settings copy eq entry_flags size k there) in
              record {
                there = λ h. (place_of (row_at rows j), (entry_is ∙ rw (named, h, number), row_message q));
                nowhere = λ h. entry_is ∙ rw (named, h);
              }
