-- What is filled is what the definitions say. Assumes nothing.
use mathlib.Core.Path.{◌≡◌, refl, sym, ap, ◌∙◌}
use mathlib.Core.Bool.{Bool, false}
use mathlib.Core.List.{List, ◌++◌}
use Prim.Native.Nat.{ℕ, ◌-◌, ◌^◌, ◌≤◌, ◌<◌, min}
use native.Mathlib.Nat.{sub-zero}
use native.Mathlib.Omega.{arith}
use lib.Dec.{ltb}
use lib.ListN.{length, take, drop, replicate}
use lib.Seq.{length-take-le}
use Rattle.base.specs.Choose.{choose_case, then_lt, else_lt}
use Rattle.writer.specs.Draft.{Filled}
use Rattle.writer.proofs.TextLaws.{overlaid}
use Rattle.std.specs.List.{list_any}
use Rattle.options.specs.Settings.{Setting}
use Rattle.options.specs.Rows.{is_of}
use Rattle.text_tables.specs.declared.MessageRow.{MessageRow}
use Rattle.text_tables.specs.declared.FieldRow.{FieldRow}
use Rattle.index.specs.Tree.{file_forests, IndexedFiles, fill, Holds, all_members}
use Rattle.index.specs.declared.Row.{Row}
use Rattle.message_graph.specs.declared.Field.{Field}
use Rattle.message_graph.specs.Rows.{fields_of, settings_of}
use Rattle.field_columns.proofs.SetColumns.{map_tab}
use Rattle.message_graph.specs.Tab.{tab}
use Rattle.boxed_settings.specs.Flags.{set_flags}
use Rattle.context_tables.specs.Rows.{message_table, field_table}
use Rattle.limits.specs.Short.{short}
use Rattle.set_tables.specs.Filled.{most_fields, declaration_rows, zeros, no_rows, message_places, message_count, field_places, field_count, target_by, field_of, setting_bytes, columns_at, Ready, settings_to, entries_by, columned, message_rows, field_rows_in}
use Rattle.set_tables.proofs.ZeroLaws.{unset_bytes}

-- a part from the start on
pub front_length : {A : Type 0} (k : ℕ) (s : List A) → k ≤ length s → length (take (k - 0) (drop 0 s)) ≡ k
front_length k s h = rw sub-zero (length-take-le k s h)

-- ---- the sizes of what is filled

module _ (set : List ℕ) where
  module _ (h : length set ≤ short) where
    pub few_there : most_fields set ≡ 150
    unfolding most_fields
    few_there = sym (else_lt 2048 150 150 short (length set) h refl)

    pub few_declared : declaration_rows set ≡ 151
    unfolding declaration_rows
    few_declared = sym (else_lt 545 151 151 short (length set) h refl)

  module _ (h : short < length set) where
    pub many_there : most_fields set ≡ 2048
    unfolding most_fields
    many_there = sym (then_lt 2048 150 2048 short (length set) h refl)

    pub many_declared : declaration_rows set ≡ 545
    unfolding declaration_rows
    many_declared = sym (then_lt 545 151 545 short (length set) h refl)

  pub fields_few : most_fields set ≤ 2048
  unfolding most_fields
  fields_few = choose_case (λ (k : ℕ). k ≤ 2048) (ltb short (length set)) (λ _. omega arith) (λ _. omega arith)

  -- ---- new arrays of the right size

  pub fresh_bytes : (most : ℕ) → most_fields set ≡ most → replicate most 0 ≡ zeros (most_fields set)
  unfolding zeros
  fresh_bytes most is = rw is

-- ---- the boxed settings, and the types

pub settings_put : (set : List ℕ) (rs : List Setting) (bytes : List ℕ) (end : ℕ) (old : List ℕ) → old ≡ zeros (most_fields set) → length old < 2 ^ 63 → Filled old (set_flags rs set) bytes end → bytes ≡ setting_bytes set rs
unfolding setting_bytes
settings_put set rs bytes end old is room filled = overlaid filled room ∙ rw is

pub settings_unset : (set : List ℕ) (rs : List Setting) (old : List ℕ) → old ≡ zeros (most_fields set) → (found : Bool) → found ≡ list_any (is_of 4) rs → found ≡ false → old ≡ setting_bytes set rs
settings_unset set rs old is found found_is unset = is ∙ unset_bytes set rs (sym found_is ∙ unset)

-- ---- both tables, by the fields

pub parts_long : (n k m : ℕ) (fields : List Field) (boxed : List Bool) → k ≡ min n (length fields) → length fields ≡ m → length boxed ≡ m
    → length (take (k - 0) (drop 0 boxed)) ≡ length (take (k - 0) (drop 0 fields))
parts_long n k m fields boxed k_is whole long = front_length k boxed (omega arith) ∙ sym (front_length k fields (omega arith))

module _ (set : List ℕ) (rs : List Setting) (rows places : List Row) (k : ℕ) (fields : List Field) (fields_are : fields ≡ tab k (field_of set rs places)) where
  columns_are : fields_of fields ≡ columns_at k set places
  unfolding columns_at fields_of target_by
  columns_are = rw (fields_are, map_tab, map_tab, map_tab, map_tab)

  flags_are : settings_of fields ≡ settings_to k set rs
  unfolding settings_to
  flags_are = rw (fields_are, map_tab)

  pub messages_filled : (n size : ℕ) (r : List MessageRow) → r ≡ message_table size rows places n (fields_of fields) (settings_of fields) → r ≡ message_table size rows places n (columns_at k set places) (settings_to k set rs)
  messages_filled n size r is = is ∙ rw (columns_are, flags_are)

  pub fields_filled : (entries : List Bool) → entries ≡ entries_by set rows → (size m : ℕ) → m ≡ k → (r : List FieldRow)
      → r ≡ field_table size m set rows places (fields_of fields) (settings_of fields) entries → r ≡ field_table size k set rows places (columns_at k set places) (settings_to k set rs) (entries_by set rows)
  fields_filled entries entries_are size m boxes r is = is ∙ rw (boxes, columns_are, flags_are, entries_are)

-- ---- both tables

-- the places of the messages, in a new array
module _ (set : List ℕ) (rows : List Row) (count : ℕ) (rows_are : IndexedFiles (file_forests 4 16 set) (no_rows 256) rows count) where
  pub places_are : rows ≡ message_places set
  unfolding message_places
  places_are = rows_are.table

  pub count_is : count ≡ message_count set
  unfolding message_count
  count_is = rows_are.counted

module _ (set : List ℕ) (rs : List Setting) (rows places : List Row) (count n : ℕ) (old : List Row) (fields : List Field) (boxed : List Bool) (ready : Ready set rows count old fields boxed)
    (places_hold : Holds (all_members set 2 rows count 0) old 0 places n) where
  members_as : all_members set 2 rows count 0 ≡ all_members set 2 (message_places set) (message_count set) 0
  members_as = ap (λ (l : List Row). all_members set 2 l count 0) ready.placed ∙ ap (λ (x : ℕ). all_members set 2 (message_places set) x 0) ready.counted

  places_as : places ≡ field_places set
  unfolding field_places
  places_as = places_hold.table ∙ ap (fill old 0) members_as ∙ ap (λ (l : List Row). fill l 0 (all_members set 2 (message_places set) (message_count set) 0)) ready.cleared

  n_as : n ≡ field_count set
  unfolding field_count
  n_as = let c = places_hold.counted in let l = ap length members_as in omega arith

  module _ (k : ℕ) (k_is : k ≡ min n (length fields)) where
    abbrev longest : ℕ
    longest = length (take (k - 0) (drop 0 fields))

    longest_as : longest ≡ columned set
    longest_as = front_length k fields (omega arith) ∙ k_is ∙ ap (min n) ready.sized ∙ ap (λ (x : ℕ). min x (most_fields set)) n_as

    pub message_rows_are : (size : ℕ) (r : List MessageRow) → r ≡ message_table size rows places n (columns_at longest set places) (settings_to longest set rs) → r ≡ message_rows size set rs
    unfolding message_rows
    message_rows_are size r is = is ∙ rw (longest_as, ready.placed, places_as, n_as)

    -- the rows in front, and what the table held behind them
    module _ (t : List FieldRow) (used : ℕ) (used_is : used ≡ min k (length t)) where
      used_as : used ≡ min (columned set) (length t)
      used_as = used_is ∙ rw (k_is, ready.sized, n_as)

      front_as : length (take (used - 0) (drop 0 t)) ≡ min (columned set) (length t)
      front_as = front_length used t (omega arith) ∙ used_as

      behind_as : drop (used - 0) t ≡ drop (min (columned set) (length t)) t
      behind_as = rw sub-zero (ap (λ (x : ℕ). drop x t) used_as)

      pub field_rows_are : (r : List FieldRow) → r ≡ field_table (length (take (used - 0) (drop 0 t))) longest set rows places (columns_at longest set places) (settings_to longest set rs) (entries_by set rows)
          → r ++ drop (used - 0) t ≡ field_rows_in t set rs
      unfolding field_rows_in
      field_rows_are r is = rw (is, behind_as, front_as, longest_as, ready.placed, places_as)
