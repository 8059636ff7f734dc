-- The column of targets of an accepted set has the numbers of the messages that type names name. Assumes nothing.
use Rattle.std.specs.Prelude.{Ok}
use mathlib.Core.Path.{◌≡◌, refl, sym, ap, ◌∙◌}
use mathlib.Core.Bool.{Bool, true, false, not, ◌||◌}
use mathlib.Core.List.{List, [], ◌∷◌, ◌++◌}
use Prim.Native.Nat.{ℕ, zero, suc, ◌+◌, ◌-◌, ◌≤◌, ◌<◌}
use native.Mathlib.Numerals.{add-one}
use native.Mathlib.Omega.{arith}
use lib.Dec.{ltb}
use lib.ListN.{length, get_or}
use borrow.Author.Tests.{lt-ltb, le-ltb, ne_eqb}
use Rattle.base.specs.Bytes.{same}
use Rattle.base.specs.Choose.{choose}
use Rattle.base.specs.Lists.{any, first_failing}
use Rattle.descriptor.specs.Descriptor.{Bytes}
use Rattle.descriptor.specs.Decode.{decode_set}
use Rattle.descriptor.specs.Limits.{messages_in, max_messages}
use Rattle.name_rules.specs.Accessors.{is_message, is_group}
use Rattle.name_rules.specs.FullNames.{Entry, set_entries}
use Rattle.name_rules.specs.Answer.{names}
use Rattle.index.specs.Tree.{Holds, all_members}
use Rattle.index.specs.declared.Row as index_row
use Rattle.index.proofs.SetLaws.{MessageTable}
use Rattle.message_graph.specs.Tab.{tab, tab_at}
use Rattle.field_columns.specs.Columns.{byte_of}
use Rattle.declarations.specs.Rows.{row_at, kind_number}
use Rattle.declarations.specs.declared.Declaration.{Declaration}
use Rattle.declarations.specs.Listed.{full, Listed, listed_row, listed, listed_files, entry_number}
use Rattle.declarations.specs.Listed as listed_rows
use Rattle.declarations.proofs.ListedLaws.{files_numbered}
use Rattle.type_names.specs.declared.Sort.TheVariants as sorts
use Rattle.type_names.specs.LookUp.{named, wanted, fits, find_from, find_row}
use Rattle.declared_types.proofs.RowLaws.{listed_from, listed_all, by_kind}
use Rattle.context_laws.specs.At.{At}
use Rattle.context_laws.specs.Tables.{Row, rows_of, called, number_of, type_name_of}
use Rattle.context_laws.specs.Tables as tables
use Rattle.context_laws.specs.Numbers.{number_below}
use Rattle.table_laws.specs.SetTables.{sound, field_there}
use Rattle.targets.specs.Targets.{message_named, type_number, target_at}

-- ---- the first message with a full name, by the rows and by what they list

module _ (bytes : List ℕ) (t : List Declaration) (name : List ℕ) where
  abbrev of_row : ℕ → List Listed
  of_row i = listed_row bytes (full bytes t (suc i)) (row_at t i)

  row_number : (i : ℕ) → i < 65536 → (ls : List Listed)
      → listed_rows.number_of name (of_row i ++ ls) ≡ choose (fits bytes t name sorts.Message i) (kind_number (row_at t i).kind - 2) (listed_rows.number_of name ls)
  unfolding listed_row listed_rows.number_of fits named wanted choose
  row_number i h ls =
      by_kind (kind_number (row_at t i).kind) (λ e. rw e) (λ e. rw e)
      (λ e. rw (ne_eqb (kind_number (row_at t i).kind) 0 (λ q. omega arith), ne_eqb (kind_number (row_at t i).kind) 1 (λ q. omega arith), le-ltb (kind_number (row_at t i).kind) 2 e, le-ltb 65535 i (omega arith), add-one))

  picked : (b : Bool) (n i x : ℕ) (ls : List Listed) → choose (ltb x (i + 1 + n)) (kind_number (row_at t x).kind - 2) 0 ≡ listed_rows.number_of name ls
      → choose (ltb (choose b i x) (i + suc n)) (kind_number (row_at t (choose b i x)).kind - 2) 0 ≡ choose b (kind_number (row_at t i).kind - 2) (listed_rows.number_of name ls)
  unfolding choose
  picked true n i x ls h = rw (lt-ltb i (i + suc n) (omega arith))
  picked false n i x ls h = ap (λ (m : ℕ). choose (ltb x m) (kind_number (row_at t x).kind - 2) 0) (let e : i + suc n ≡ i + 1 + n = omega arith in e) ∙ h

  found_number : (n i : ℕ) → i + n ≤ 65536
      → choose (ltb (find_from bytes t name sorts.Message n i) (i + n)) (kind_number (row_at t (find_from bytes t name sorts.Message n i)).kind - 2) 0 ≡ listed_rows.number_of name (listed_from bytes t n i)
  unfolding find_from listed_from listed_rows.number_of choose
  found_number zero i h = rw (le-ltb i (i + 0) (omega arith))
  found_number (suc n) i h =
      picked (fits bytes t name sorts.Message i) n i (find_from bytes t name sorts.Message n (i + 1)) (listed_from bytes t n (i + 1)) (found_number n (i + 1) (omega arith))
      ∙ sym (row_number i (omega arith) (listed_from bytes t n (i + 1)))

-- ---- and by the messages of the set

one_more : (b : Bool) (m n : ℕ) → choose b (m + 1 + n) 0 ≡ choose b (m + (1 + n)) 0
unfolding choose
one_more true m n = omega arith
one_more false m n = refl

entry_number_is : (name : Bytes) (m : ℕ) (es : List Entry) → entry_number name m es ≡ choose (tables.listed es name) (m + first_failing (λ (e : Entry). not (called name e)) es) 0
unfolding entry_number tables.listed any first_failing choose
entry_number_is name m [] = refl
entry_number_is name m (e ∷ es) = go (same e.full name) (entry_number_is name (m + 1) es)
  where
    go : (b : Bool) → entry_number name (m + 1) es ≡ choose (tables.listed es name) (m + 1 + first_failing (λ (e : Entry). not (called name e)) es) 0
        → choose b m (entry_number name (m + 1) es) ≡ choose (b || any (called name) es) (m + choose (not b) (1 + first_failing (λ (e : Entry). not (called name e)) es) 0) 0
    go true h = omega arith
    go false h = h ∙ one_more (any (called name) es) m (first_failing (λ (e : Entry). not (called name e)) es)

number_is : (name : Bytes) (es : List Entry) → entry_number name 0 es ≡ number_of es name
unfolding number_of
number_is name es =
    entry_number_is name 0 es
    ∙ ap (λ (n : ℕ). choose (tables.listed es name) n 0) (let e : 0 + first_failing (λ (e : Entry). not (called name e)) es ≡ first_failing (λ (e : Entry). not (called name e)) es = omega arith in e)

-- ---- the column

byte_picked : (b : Bool) (n : ℕ) → choose b (byte_of n) 0 ≡ byte_of (choose b n 0)
unfolding byte_of choose
byte_picked true n = refl
byte_picked false n = refl

-- a table of declarations that lists those of the set
module _ (set : List ℕ) (t : List Declaration) (count : ℕ) (few_rows : count ≤ 65536) (lists : listed set t count ≡ listed_files 0 0 (decode_set set)) where
  named_is : (name : Bytes) → message_named set t count name ≡ byte_of (number_of (set_entries (decode_set set)) name)
  unfolding message_named find_row
  named_is name =
      byte_picked (ltb (find_from set t name sorts.Message count 0) count) (kind_number (row_at t (find_from set t name sorts.Message count 0)).kind - 2)
      ∙ ap byte_of
      (ap (λ (n : ℕ). choose (ltb (find_from set t name sorts.Message count 0) n) (kind_number (row_at t (find_from set t name sorts.Message count 0)).kind - 2) 0) (let e : count ≡ 0 + count = omega arith in e)
      ∙ found_number set t name count 0 (omega arith)
      ∙ ap (listed_rows.number_of name) (sym (listed_all set t count) ∙ lists)
      ∙ files_numbered name 0 0 (decode_set set)
      ∙ number_is name (set_entries (decode_set set)))

  -- `rows` and `fields` as index leaves them
  module _ (rows : List index_row.Row) (messages_counted : ℕ) (table : MessageTable set rows messages_counted) (u fields : List index_row.Row) (n : ℕ)
      (holds : Holds (all_members set 2 rows messages_counted 0) u 0 fields n) (room : n ≤ length u)
      (few : length (messages_in (decode_set set)) ≤ max_messages) (good : names (decode_set set) ≡ Ok tt) where
    abbrev es : List Entry
    es = set_entries (decode_set set)

    pub target_is : (r : Row) (k : ℕ) → At r (rows_of es) k → (is_message r.field || is_group r.field) ≡ true → target_at set fields t count k ≡ number_of es (type_name_of r)
    unfolding target_at type_number byte_of choose
    target_is r k p is =
        let s = sound set rows messages_counted table u fields n holds room few good in
        let own = field_there set rows messages_counted table u fields n holds room few good p in
        ap (type_number set t count) own
        ∙ rw (is, named_is (type_name_of r), lt-ltb (number_of es (type_name_of r)) 256 (number_below es (type_name_of r) s.distinct s.few))

    -- as `fill_columns` leaves it
    pub targets_are : (size : ℕ) → n ≤ size → (r : Row) (k : ℕ) → At r (rows_of es) k → k < n → (is_message r.field || is_group r.field) ≡ true
        → get_or (tab size (target_at set fields t count)) k 0 ≡ number_of es (type_name_of r)
    targets_are size wide r k p within is = tab_at size (target_at set fields t count) 0 k (omega arith) ∙ target_is r k p is
