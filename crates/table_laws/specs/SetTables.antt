-- The columns of a set's fields are the tables over full names, so the rows say what context's definitions say. Assumes nothing.
use Rattle.std.specs.Prelude.{◌≡◌, refl, Bool, true, ℕ, zero, suc, ◌+◌, ◌≤◌, ◌<◌, ltb, length, get_or, take, Ok}
use Rattle.std.proofs.Math.Path.{sym, ap}
use Rattle.std.proofs.Common.{◌∙◌, subst, add-one, arith, length-append, lt-ltb}
use mathlib.Core.List.{List, [], ◌∷◌, map, map-map, Memᴰ}
use Rattle.std.proofs.lemmas.List.{length-map}
use Rattle.std.proofs.Math.ListN.{get_or-map}
use Rattle.base.specs.Tests.{and_both}
use Rattle.base.specs.Lists.{all, all_of}
use Rattle.descriptor.specs.Descriptor.{FieldDescriptor, MessageDescriptor, FileDescriptor}
use Rattle.descriptor.specs.Decode.{decode_field, decode_set}
use Rattle.descriptor.specs.Limits.{messages_in, fields_in, max_messages}
use Rattle.name_rules.specs.FullNames.{Entry, set_entries, fields_of_entries}
use Rattle.name_rules.specs.Answer.{names}
use Rattle.index.specs.Owners.{owners}
use Rattle.index.specs.Tree.{Holds, all_members, no_row, row_at, row_bytes}
use Rattle.index.specs.declared.Row as index_row
use Rattle.index.proofs.SetLaws.{MessageTable, fields_of}
use Rattle.message_graph.specs.Tab.{tab, length_tab, tab_at}
use Rattle.field_columns.specs.Columns.{owner_at, column_of, column_at, first_rows, start_at, fields_before, Column, Kind, Label}
use Rattle.field_columns.proofs.SetColumns.{rows_decoded, owners_are, column_is, starts_are}
use Rattle.field_columns.proofs.EntryLaws.{set_messages, set_fields_are}
use Rattle.context_laws.specs.At.{At, at_within, at_get_or, at_map}
use Rattle.context_laws.specs.Tables.{Row, rows_from, rows_of, tables_of, Sound}
use Rattle.context_laws.specs.Rows.{first_row}
use Rattle.context_laws.proofs.Rows.{column_entry, owners_entry}
use Rattle.context_laws.specs.SoundSets.{sound_set}
use Rattle.context_laws.specs.Ranges.{Ranged, ranged_set}

-- ---- columns over full names

abbrev message_of : Entry → MessageDescriptor
message_of e = e.message

map_self : {A : Type 0} (xs : List A) → map (λ (x : A). x) xs ≡ xs
map_self [] = refl
map_self {A} (x ∷ xs) = ap (λ (l : List A). x ∷ l) (map_self xs)

pub rows_fields : (i : ℕ) (es : List Entry) → map (λ (r : Row). r.field) (rows_from i es) ≡ fields_of_entries es
unfolding rows_from fields_of_entries
rows_fields i [] = refl
rows_fields i (e ∷ es) =
    column_entry (λ (r : Row). r.field) i e es
    ∙ rw (map_self e.message.fields, rows_fields (suc i) es)

pub rows_counted : (ds : List FileDescriptor) → length (rows_of (set_entries ds)) ≡ length (fields_in ds)
rows_counted ds = sym (length-map (rows_of (set_entries ds)) (λ (x : Row). x.field)) ∙ ap length (rows_fields 0 (set_entries ds) ∙ set_fields_are ds)

rows_owners : (i : ℕ) (es : List Entry) → map (λ (r : Row). r.owner) (rows_from i es) ≡ owners fields_of i (map message_of es)
unfolding rows_from owners
rows_owners i [] = refl
rows_owners i (e ∷ es) = owners_entry i e es ∙ rw (rows_owners (suc i) es, add-one i)

rows_column : (g : FieldDescriptor → ℕ) (es : List Entry) → map (λ (r : Row). g r.field) (rows_of es) ≡ map g (fields_of_entries es)
rows_column g es = sym (map-map g (λ (r : Row). r.field) (rows_of es)) ∙ ap (map g) (rows_fields 0 es)

first_row_before : (es : List Entry) (i : ℕ) → fields_before (map message_of es) i ≡ first_row es i
unfolding fields_before first_row fields_of_entries all_of
first_row_before [] zero = refl
first_row_before [] (suc i) = refl
first_row_before (e ∷ es) zero = refl
first_row_before (e ∷ es) (suc i) =
    length-append e.message.fields (all_of fields_of (take i (map message_of es)))
    ∙ ap (λ (n : ℕ). length e.message.fields + n) (first_row_before es i)
    ∙ sym (length-append e.message.fields (fields_of_entries (take i es)))

all_from : {A : Type 0} (p : A → Bool) (xs : List A) → ((x : A) → Memᴰ x xs → p x ≡ true) → all p xs ≡ true
unfolding all
all_from p [] h = refl
all_from p (x ∷ xs) h = and_both (h x (Memᴰ.head refl)) (all_from p xs (λ y m. h y (Memᴰ.tail m)))

-- ---- the columns that the code fills: `rows` and `fields` as index leaves them, with room for all rows

module _ (set : List ℕ) (rows : List index_row.Row) (count : ℕ) (table : MessageTable set rows count) (t fields : List index_row.Row) (n : ℕ)
    (holds : Holds (all_members set 2 rows count 0) t 0 fields n) (room : n ≤ length t)
    (few : length (messages_in (decode_set set)) ≤ max_messages) (good : names (decode_set set) ≡ Ok tt) where
  abbrev es : List Entry
  es = set_entries (decode_set set)

  pub sound : Sound es
  sound = sound_set (decode_set set) few good

  pub owner_is : tab n (owner_at fields) ≡ (tables_of es).owner
  unfolding tables_of
  owner_is =
      owners_are set rows count table t fields n holds room few
      ∙ ap (owners fields_of 0) (sym (set_messages (decode_set set)))
      ∙ sym (rows_owners 0 es)

  byte_column : (column : Column) → ((f : FieldDescriptor) → Ranged f → column_of column f < 256) → tab n (column_at set fields column) ≡ map (λ (r : Row). column_of column r.field) (rows_of es)
  byte_column column small =
      column_is set rows count table t fields n holds room column
      (all_from (λ (f : FieldDescriptor). ltb (column_of column f) 256) (fields_in (decode_set set))
      (λ f m. lt-ltb (column_of column f) 256 (small f (ranged_set (decode_set set) good f (subst (Memᴰ f) (sym (set_fields_are (decode_set set))) m)))))
      ∙ ap (map (column_of column)) (sym (set_fields_are (decode_set set)))
      ∙ sym (rows_column (column_of column) es)

  pub kind_is : tab n (column_at set fields Kind) ≡ (tables_of es).kind
  unfolding tables_of
  kind_is = byte_column Kind (λ f r. let h = r.type_in in omega arith)

  pub label_is : tab n (column_at set fields Label) ≡ (tables_of es).label
  unfolding tables_of
  label_is = byte_column Label (λ f r. let h = r.label_in in omega arith)

  pub first_is : (k i : ℕ) → i < k → get_or (tab k (start_at fields n)) i 0 ≡ first_row es i
  first_is k i h =
      ap (λ (l : List ℕ). get_or l i 0) (starts_are set rows count table t fields n holds room k)
      ∙ tab_at k (fields_before (messages_in (decode_set set))) 0 i h
      ∙ ap (λ (ms : List MessageDescriptor). fields_before ms i) (sym (set_messages (decode_set set)))
      ∙ first_row_before es i

  -- field k lies where its row says
  pub field_there : {r : Row} {k : ℕ} → At r (rows_of es) k → decode_field (row_bytes set (row_at fields k)) ≡ r.field
  field_there {r} {k} p =
      let decode : index_row.Row → FieldDescriptor = λ x. decode_field (row_bytes set x) in
      let whole : map decode (first_rows fields n) ≡ map (λ (x : Row). x.field) (rows_of es) =
      rows_decoded set rows count table t fields n holds room ∙ sym (set_fields_are (decode_set set)) ∙ sym (rows_fields 0 es) in
      let within = at_within p in
      let left = length-map (first_rows fields n) decode in
      let right = length-map (rows_of es) (λ (x : Row). x.field) in
      let size = length_tab n (row_at fields) in
      let same = ap length whole in
      ap decode (sym (tab_at n (row_at fields) no_row k (omega arith)))
      ∙ sym (get_or-map decode (first_rows fields n) k no_row)
      ∙ ap (λ (l : List FieldDescriptor). get_or l k (decode no_row)) whole
      ∙ at_get_or (at_map (λ (x : Row). x.field) p) (decode no_row)
