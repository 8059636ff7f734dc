-- The rows of the tables: entry by entry, as a loop fills them, and what stands in the row of a field. Assumes nothing.
use Rattle.std.specs.Prelude.{◌≡◌, refl, true, ◌||◌, ℕ, zero, suc, ◌+◌, ◌<◌, length, get_or, take, replicate}
use Rattle.std.proofs.Common.{sym, ◌∙◌, ap, subst, ⊎_elim, zero-add, add-zero, suc-add, add-suc, length-append, ext_get_or}
use Rattle.std.proofs.Math.Bool.{false}
use mathlib.Core.List.Memᴰ
use mathlib.Core.List.{List, [], ◌∷◌, ◌++◌, map, map-append, map-map, append_assoc, append-nil, Memᴰ}
use native.Mathlib.Omega.{arith}
use Rattle.std.proofs.Math.ListN.{length-map}
use Rattle.std.proofs.Math.Seq.{take-length}
use Rattle.descriptor.specs.Descriptor.{Bytes, FieldDescriptor}
use Rattle.options.specs.Settings.{Setting}
use Rattle.name_rules.specs.Accessors.{type, label, is_message, is_group}
use Rattle.name_rules.specs.FullNames.{Entry, fields_of_entries}
use Rattle.context.specs.MessageGraph.{is_link}
use Rattle.message_graph.specs.Fields.{size, owner_of, target_of, kind_of, label_of, link, message_at_is}
use Rattle.message_graph.specs.Fields as numbers
use Rattle.message_graph.specs.Tab.{tab, length_tab, tab_at}
use Rattle.context_laws.specs.At.{At, at_within, at_get_or, at_some, at_left, at_right, at_map, mem_of_at}
use Rattle.context_laws.specs.At.At.{first, next}
use Rattle.context_laws.specs.Tables.{Row, field_row, rows_from, rows_of, listed, number_of, type_name_of, tables_of, is_set, settings_of, Sound}
use Rattle.context_laws.specs.Numbers.{listed_at, Entered, number_entered, number_below}
use Rattle.context_laws.specs.Rows.{first_row}

-- ---- a column, entry by entry

pub column_entry : {A : Type 0} (g : Row → A) (i : ℕ) (e : Entry) (es : List Entry) → map g (rows_from i (e ∷ es)) ≡ map (λ f. g (field_row i e f)) e.message.fields ++ map g (rows_from (suc i) es)
unfolding rows_from
column_entry g i e es = map-append g (map (field_row i e) e.message.fields) (rows_from (suc i) es) ∙ rw (map-map g (field_row i e) e.message.fields)

constant : {A : Type 0} (i : ℕ) (xs : List A) → map (λ x. i) xs ≡ replicate (length xs) i
constant i [] = refl
constant i (x ∷ xs) = ap (λ (l : List ℕ). i ∷ l) (constant i xs)

pub owners_entry : (i : ℕ) (e : Entry) (es : List Entry) → map (λ (r : Row). r.owner) (rows_from i (e ∷ es)) ≡ replicate (length e.message.fields) i ++ map (λ (r : Row). r.owner) (rows_from (suc i) es)
owners_entry i e es = column_entry (λ (r : Row). r.owner) i e es ∙ rw (constant i e.message.fields)

pub rows_append : (i : ℕ) (xs ys : List Entry) → rows_from i (xs ++ ys) ≡ rows_from i xs ++ rows_from (i + length xs) ys
unfolding rows_from
rows_append i [] ys = rw add-zero
rows_append i (x ∷ xs) ys =
    rw (rows_append (suc i) xs ys, suc-add, add-suc) (sym (append_assoc (map (field_row i x) x.message.fields) (rows_from (suc i) xs) (rows_from (suc (i + length xs)) ys)))

nothing : (i : ℕ) → rows_from i [] ≡ []
unfolding rows_from
nothing i = refl

-- one more entry
pub column_last : {A : Type 0} (g : Row → A) (es : List Entry) (e : Entry) → map g (rows_of (es ++ (e ∷ []))) ≡ map g (rows_of es) ++ map (λ f. g (field_row (length es) e f)) e.message.fields
column_last {A} g es e =
    ap (map g) (rows_append 0 es (e ∷ [])) ∙ map-append g (rows_of es) (rows_from (0 + length es) (e ∷ []))
    ∙ rw (zero-add, column_entry g (length es) e [], nothing) (ap (λ (l : List A). map g (rows_of es) ++ l) (append-nil (map (λ f. g (field_row (length es) e f)) e.message.fields)))

row_from : {e : Entry} (i : ℕ) {es : List Entry} {a : ℕ} → At e es a → {f : FieldDescriptor} {j : ℕ} → At f e.message.fields j → At (field_row (i + a) e f) (rows_from i es) (first_row es a + j)
unfolding rows_from first_row fields_of_entries
row_from i (first {y} {xs} q) {f} {j} h =
    rw (add-zero, zero-add, q) (at_left (rows_from (suc i) xs) (at_map (field_row i y) (subst (λ (g : Entry). At f g.message.fields j) q h)))
row_from i (next {y} {xs} {k} p) {f} {j} h =
    let place : length (map (field_row i y) y.message.fields) + (first_row xs k + j) ≡ length (y.message.fields ++ fields_of_entries (take k xs)) + j = simp (length-map, length-append) (omega arith) in
    rw (← place, add-suc, ← suc-add) (at_right (map (field_row i y) y.message.fields) (row_from (suc i) p h))

-- the row of the field j of the message a
pub row_of : {e : Entry} {es : List Entry} {a : ℕ} → At e es a → {f : FieldDescriptor} {j : ℕ} → At f e.message.fields j → At (field_row a e f) (rows_of es) (first_row es a + j)
row_of p h = rw zero-add at (row_from 0 p h)

-- what a column has there
pub column_at : {A : Type 0} (g : Row → A) (d : A) {e : Entry} {es : List Entry} {a : ℕ} → At e es a → {f : FieldDescriptor} {j : ℕ} → At f e.message.fields j → get_or (map g (rows_of es)) (first_row es a + j) d ≡ g (field_row a e f)
column_at g d p h = at_get_or (at_map g (row_of p h)) d

-- the rows of the next message come behind its own, and those of all messages are all
pub first_row_next : {e : Entry} {es : List Entry} {a : ℕ} → At e es a → first_row es (suc a) ≡ first_row es a + length e.message.fields
unfolding first_row fields_of_entries
first_row_next (first {y} {xs} q) = rw (zero-add, q) (length-append y.message.fields [] ∙ add-zero _)
first_row_next (next {y} {xs} {k} p) =
    rw (length-append y.message.fields (fields_of_entries (take k xs))) (length-append y.message.fields (fields_of_entries (take (suc k) xs)) ∙ rw (first_row_next p) (omega arith))

rows_count : (i : ℕ) (es : List Entry) → length (rows_from i es) ≡ length (fields_of_entries es)
unfolding rows_from fields_of_entries
rows_count i [] = refl
rows_count i (e ∷ es) =
    length-append (map (field_row i e) e.message.fields) (rows_from (suc i) es)
    ∙ rw (length-map e.message.fields (field_row i e), rows_count (suc i) es) (sym (length-append e.message.fields (fields_of_entries es)))

pub first_row_end : (es : List Entry) → first_row es (length es) ≡ length (rows_of es)
unfolding first_row
first_row_end es = rw take-length (sym (rows_count 0 es))

-- a column is a table of what it has at each place, as `Filled` has it
pub column_tab : {A : Type 0} (l : List A) (d : A) → l ≡ tab (length l) (λ k. get_or l k d)
column_tab l d = ext_get_or d l (tab (length l) (λ k. get_or l k d)) (sym (length_tab (length l) (λ k. get_or l k d))) (λ i h. sym (tab_at (length l) (λ k. get_or l k d) d i h))

-- ---- what a row says of its message

pub record Owned (i : ℕ) (es : List Entry) (r : Row) : Type 0 where
  pub entry : Entry
  pub place : ℕ
  pub at : At entry es place
  pub owner : r.owner ≡ i + place
  pub name : entry.full ≡ r.full
  pub own : Memᴰ r.field entry.message.fields
  pub field : Memᴰ r.field (fields_of_entries es)

pub find_owner : (i : ℕ) (es : List Entry) (r : Row) → Memᴰ r (rows_from i es) → Owned i es r
unfolding rows_from fields_of_entries
find_owner i [] r m = absurd (Memᴰ.not-nil m)
find_owner i (e ∷ es) r m =
    ⊎_elim
    (λ w.
    let p = Memᴰ.of_map (field_row i e) e.message.fields w in
    record {
      entry = e;
      place = zero;
      at = first refl;
      owner = (let q : i ≡ r.owner = ap (λ (x : Row). x.owner) p.2 in omega arith);
      name = ap (λ (x : Row). x.full) p.2;
      own = Memᴰ.cast (sym (ap (λ (x : Row). x.field) p.2)) p.1;
      field = Memᴰ.append_left (fields_of_entries es) (Memᴰ.cast (sym (ap (λ (x : Row). x.field) p.2)) p.1);
    })
    (λ w.
    let p = find_owner (suc i) es r w in
    let o = p.owner in
    record { entry = p.entry; place = suc p.place; at = next p.at; owner = omega arith; name = p.name; own = p.own; field = Memᴰ.append_right e.message.fields p.field })
    (Memᴰ.append_cases (map (field_row i e) e.message.fields) m)

module _ {es : List Entry} (s : Sound es) {r : Row} {k : ℕ} (p : At r (rows_of es) k) where
  from_entry : Owned 0 es r
  from_entry = find_owner 0 es r (mem_of_at p)

  pub row_within : k < size (tables_of es)
  unfolding tables_of
  row_within = rw length-map (at_within p)

  -- its message
  pub row_entered : Entered es r.full
  row_entered = record { entry = from_entry.entry; number = from_entry.place; at = from_entry.at; name = from_entry.name }

  pub row_listed : listed es r.full ≡ true
  row_listed = subst (λ (x : Bytes). listed es x ≡ true) from_entry.name (listed_at from_entry.at)

  -- its type, where that is a message or group
  pub row_typed : (is_message r.field || is_group r.field) ≡ true → listed es (type_name_of r) ≡ true
  row_typed = s.typed r.field from_entry.field

  pub row_owner : owner_of (tables_of es) k ≡ number_of es r.full
  unfolding tables_of row_entered
  row_owner =
      let read = at_get_or (at_map (λ (x : Row). x.owner) p) 0 in
      let below = number_below es r.full s.distinct s.few in
      let is : number_of es r.full ≡ from_entry.place = number_entered s.distinct row_entered in
      let place = from_entry.owner in
      message_at_is (map (λ (x : Row). x.owner) (rows_of es)) k (omega arith) ∙ read ∙ omega arith

  pub row_target : target_of (tables_of es) k ≡ number_of es (type_name_of r)
  unfolding tables_of
  row_target =
      let read = at_get_or (at_map (λ (x : Row). number_of es (type_name_of x)) p) 0 in
      let below = number_below es (type_name_of r) s.distinct s.few in
      message_at_is (map (λ (x : Row). number_of es (type_name_of x)) (rows_of es)) k (omega arith) ∙ read

  pub row_kind : kind_of (tables_of es) k ≡ type r.field
  unfolding tables_of
  row_kind = at_get_or (at_map (λ (x : Row). type x.field) p) 0

  pub row_label : label_of (tables_of es) k ≡ label r.field
  unfolding tables_of
  row_label = at_get_or (at_map (λ (x : Row). label x.field) p) 0

  pub row_set : (rs : List Setting) → get_or (settings_of rs es) k false ≡ is_set rs r
  unfolding settings_of
  row_set rs = at_get_or (at_map (is_set rs) p) false

  pub row_link : link (tables_of es) k ≡ is_link r.field
  unfolding numbers.is_link
  row_link = rw (row_kind, row_label)

-- each row of the tables is a field's
pub row_at : (es : List Entry) (k : ℕ) → k < size (tables_of es) → (r : Row) × At r (rows_of es) k
unfolding tables_of
row_at es k h = at_some (rows_of es) k (subst (λ (n : ℕ). k < n) (length-map (rows_of es) (λ (r : Row). r.owner)) h)
