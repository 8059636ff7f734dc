-- What the columns of a set's fields are, over the decoded set. Assumes nothing.
use mathlib.Core.Path.{◌≡◌, refl, sym, ap, ◌∙◌, subst}
use mathlib.Core.Bool.{true}
use mathlib.Core.List.{List, [], ◌∷◌, ◌++◌, map, map-append, map-map}
use Prim.Native.Nat.{ℕ, zero, suc, ◌+◌, ◌-◌, ◌≤◌, ◌<◌}
use native.Mathlib.Omega.{arith}
use lib.ListN.{length, length-append, take, replicate}
use lib.Seq.{ext_get_or, take-nil}
use lib.Dec.{leb, ltb}
use borrow.Author.Tests.{le-leb, lt-leb, lt-ltb, le-ltb}
use Rattle.base.specs.Choose.{choose}
use Rattle.base.specs.Tests.{and_left, and_right}
use Rattle.base.specs.Lists.{all, all_of, first_failing, map_length, first_map}
use Rattle.descriptor.specs.Descriptor.{FieldDescriptor, MessageDescriptor}
use Rattle.descriptor.specs.Decode.{decode_field, decode_message, decode_set}
use Rattle.descriptor.specs.Limits.{messages_in, fields_in}
use Rattle.message_graph.specs.Limit.{messages}
use Rattle.message_graph.specs.Tab.{tab, length_tab, tab_at}
use Rattle.index.specs.Tree.{no_row, row_at, row_bytes, Holds, all_members}
use Rattle.index.specs.Owners.{owners}
use Rattle.index.specs.declared.Row.{Row}
use Rattle.index.proofs.TableLaws.{Stands, fill_stands}
use Rattle.index.proofs.SetLaws.{MessageTable, HoldsMembers, members_fit, fields_of, fields_hold}
use Rattle.field_columns.specs.Columns.{owner_of, owner_at, column_of, byte_of, column_at, rows_counted, first_rows, before, start_at, fields_before, Column}

-- ---- tables as lists

module _ {ℓ κ} {A : Type ℓ} {B : Type κ} (g : A → B) where
  pub map_tab : (n : ℕ) (f : ℕ → A) → map g (tab n f) ≡ tab n (λ i. g (f i))
  unfolding tab
  map_tab zero f = refl
  map_tab (suc n) f = map-append g (tab n f) (f n ∷ []) ∙ ap (λ (l : List B). l ++ (g (f n) ∷ [])) (map_tab n f)

  map_replicate : (n : ℕ) (a : A) → map g (replicate n a) ≡ replicate n (g a)
  map_replicate zero a = refl
  map_replicate (suc n) a = ap (λ (l : List B). g a ∷ l) (map_replicate n a)

tab_same {ℓ} : {A : Type ℓ} (n : ℕ) (f g : ℕ → A) → ((i : ℕ) → f i ≡ g i) → tab n f ≡ tab n g
unfolding tab
tab_same zero f g same = refl
tab_same {A} (suc n) f g same = ap (λ (l : List A). l ++ (f n ∷ [])) (tab_same n f g same) ∙ ap (λ (a : A). tab n g ++ (a ∷ [])) (same n)

-- the rows that stand in a table are its first rows
stands_first : (t : List Row) (rs : List Row) → Stands t 0 rs → first_rows t (length rs) ≡ rs
stands_first t rs there =
    ext_get_or no_row (first_rows t (length rs)) rs (length_tab (length rs) (row_at t))
    (λ i h.
    let n : length (first_rows t (length rs)) ≡ length rs = length_tab (length rs) (row_at t) in
    tab_at (length rs) (row_at t) no_row i (omega arith) ∙ ap (row_at t) (let e : i ≡ 0 + i = omega arith in e) ∙ there i (omega arith))

-- ---- numbers of messages

module _ {ℓ κ} {A : Type ℓ} {B : Type κ} (held : A → List B) where
  -- in one byte each
  owner_numbers : (xs : List A) (i : ℕ) → i + length xs ≤ messages → map owner_of (owners held (i + 1) xs) ≡ owners held i xs
  unfolding owners owner_of choose
  owner_numbers [] i h = refl
  owner_numbers (a ∷ xs) i h =
      let less : i + 1 - 1 ≡ i = omega arith in
      let one : owner_of (i + 1) ≡ i = rw (less, lt-ltb i messages (omega arith)) in
      map-append owner_of (replicate (length (held a)) (i + 1)) (owners held (i + 1 + 1) xs)
      ∙ ap (λ (l : List ℕ). l ++ map owner_of (owners held (i + 1 + 1) xs)) (map_replicate owner_of (length (held a)) (i + 1) ∙ ap (replicate (length (held a))) one)
      ∙ ap (λ (l : List ℕ). replicate (length (held a)) i ++ l) (owner_numbers xs (i + 1) (omega arith))

-- ---- where a message's fields begin

module _ (b x : ℕ) (ys : List ℕ) where
  failing_pass : x ≤ b → (n : ℕ) → first_failing (λ (u : ℕ). leb u b) (replicate n x ++ ys) ≡ n + first_failing (λ (u : ℕ). leb u b) ys
  unfolding first_failing choose
  failing_pass h zero = omega arith
  failing_pass h (suc n) = let on = failing_pass h n in rw (le-leb x b h) (omega arith)

  failing_stop : b < x → first_failing (λ (u : ℕ). leb u b) ys ≡ 0 → (n : ℕ) → first_failing (λ (u : ℕ). leb u b) (replicate n x ++ ys) ≡ 0
  unfolding first_failing choose
  failing_stop h e zero = e
  failing_stop h e (suc n) = rw (lt-leb x b h)

module _ {ℓ κ} {A : Type ℓ} {B : Type κ} (held : A → List B) where
  none_before : (xs : List A) (b i : ℕ) → b < i → first_failing (λ (u : ℕ). leb u b) (owners held i xs) ≡ 0
  unfolding owners first_failing
  none_before [] b i h = refl
  none_before (a ∷ xs) b i h = failing_stop b i (owners held (i + 1) xs) h (none_before xs b (i + 1) (omega arith)) (length (held a))

  failing_owners : (xs : List A) (j i : ℕ) → first_failing (λ (u : ℕ). leb u (j + i)) (owners held (j + 1) xs) ≡ length (all_of held (take i xs))
  unfolding owners first_failing all_of
  failing_owners [] j i = rw (take-nil {A = A} i)
  failing_owners (a ∷ xs) j zero = none_before (a ∷ xs) (j + 0) (j + 1) (omega arith)
  failing_owners (a ∷ xs) j (suc i) =
      let pass = failing_pass (j + suc i) (j + 1) (owners held (j + 1 + 1) xs) (omega arith) (length (held a)) in
      let next : j + suc i ≡ j + 1 + i = omega arith in
      pass ∙ ap (λ (b : ℕ). length (held a) + first_failing (λ (u : ℕ). leb u b) (owners held (j + 1 + 1) xs)) next
      ∙ ap (λ (n : ℕ). length (held a) + n) (failing_owners xs (j + 1) i) ∙ sym (length-append (held a) (all_of held (take i xs)))

-- ---- the columns of a set

-- numbers that fit a byte stand in it as they are
bytes_are : (g : FieldDescriptor → ℕ) (fs : List FieldDescriptor) → all (λ (f : FieldDescriptor). ltb (g f) 256) fs ≡ true → map (λ (f : FieldDescriptor). byte_of (g f)) fs ≡ map g fs
unfolding all byte_of choose
bytes_are g [] h = refl
bytes_are g (f ∷ fs) h =
    let one : byte_of (g f) ≡ g f = rw (and_left (ltb (g f) 256) (all (λ (f : FieldDescriptor). ltb (g f) 256) fs) h) in
    ap (λ (n : ℕ). n ∷ map (λ (f : FieldDescriptor). byte_of (g f)) fs) one ∙ ap (λ (l : List ℕ). g f ∷ l) (bytes_are g fs (and_right (ltb (g f) 256) (all (λ (f : FieldDescriptor). ltb (g f) 256) fs) h))

-- `fields` as `index_members` leaves it from row 0 on, where it has room for all rows
module _ (set : List ℕ) (messages_table : List Row) (count : ℕ) (table : MessageTable set messages_table count) (t fields : List Row) (n : ℕ)
    (holds : Holds (all_members set 2 messages_table count 0) t 0 fields n) (room : n ≤ length t) where
  abbrev rs : List Row
  rs = all_members set 2 messages_table count 0

  abbrev ms : List MessageDescriptor
  ms = messages_in (decode_set set)

  listed : HoldsMembers 2 decode_field fields_of set messages_table count 0
  listed = fields_hold set messages_table count table

  rs_decoded : map (λ (r : Row). decode_field (row_bytes set r)) rs ≡ fields_in (decode_set set)
  unfolding fields_in
  rs_decoded = listed.decoded

  n_is : n ≡ length rs
  n_is = let c : n ≡ 0 + length rs = holds.counted in omega arith

  pub fields_counted : n ≡ length (fields_in (decode_set set))
  fields_counted = n_is ∙ sym (map_length (λ (r : Row). decode_field (row_bytes set r)) rs) ∙ ap length rs_decoded

  few_rows : n ≤ 32767
  unfolding fields_in decode_message
  few_rows = let c = fields_counted in let few = members_fit 2 decode_field fields_of (λ p. refl) set table.small (λ e. omega arith) in omega arith

  rows_are : first_rows fields n ≡ rs
  rows_are =
      let c = n_is in
      let f = few_rows in
      ap (first_rows fields) n_is
      ∙ stands_first fields rs (subst (λ (u : List Row). Stands u 0 rs) (sym holds.table) (fill_stands rs t 0 (omega arith)))

  -- the fields of the decoded set, in order
  pub rows_decoded : map (λ (r : Row). decode_field (row_bytes set r)) (first_rows fields n) ≡ fields_in (decode_set set)
  rows_decoded = ap (map (λ (r : Row). decode_field (row_bytes set r))) rows_are ∙ rs_decoded

  -- for each field the number of its message
  pub owners_are : length ms ≤ messages → tab n (owner_at fields) ≡ owners fields_of 0 ms
  owners_are few =
      sym (map_tab (λ (r : Row). owner_of r.up) n (row_at fields)) ∙ ap (map (λ (r : Row). owner_of r.up)) rows_are
      ∙ sym (map-map owner_of (λ (r : Row). r.up) rs) ∙ ap (map owner_of) listed.up ∙ owner_numbers fields_of ms 0 (omega arith)

  -- for each field its type, its label
  pub bytes_are_in : (column : Column) → tab n (column_at set fields column) ≡ map (λ (f : FieldDescriptor). byte_of (column_of column f)) (fields_in (decode_set set))
  unfolding column_at
  bytes_are_in column =
      sym (map_tab (λ (r : Row). byte_of (column_of column (decode_field (row_bytes set r)))) n (row_at fields))
      ∙ ap (map (λ (r : Row). byte_of (column_of column (decode_field (row_bytes set r))))) rows_are
      ∙ sym (map-map (λ (f : FieldDescriptor). byte_of (column_of column f)) (λ (r : Row). decode_field (row_bytes set r)) rs)
      ∙ ap (map (λ (f : FieldDescriptor). byte_of (column_of column f))) rs_decoded

  pub column_is : (column : Column) → all (λ (f : FieldDescriptor). ltb (column_of column f) 256) (fields_in (decode_set set)) ≡ true
      → tab n (column_at set fields column) ≡ map (column_of column) (fields_in (decode_set set))
  column_is column small = bytes_are_in column ∙ bytes_are (column_of column) (fields_in (decode_set set)) small

  -- for each message, and for the number behind the last one, how many fields the messages before it have
  start_is : (i : ℕ) → start_at fields n i ≡ fields_before ms i
  unfolding start_at rows_counted fields_before choose
  start_is i =
      let c = few_rows in
      rw (le-ltb 65535 n (omega arith))
      (ap (first_failing (before i)) rows_are
      ∙ sym (first_map (λ (u : ℕ). leb u i) (λ (r : Row). r.up) rs)
      ∙ ap (first_failing (λ (u : ℕ). leb u i)) listed.up
      ∙ ap (λ (b : ℕ). first_failing (λ (u : ℕ). leb u b) (owners fields_of 1 ms)) (let e : i ≡ 0 + i = omega arith in e)
      ∙ failing_owners fields_of ms 0 i)

  pub starts_are : (k : ℕ) → tab k (start_at fields n) ≡ tab k (fields_before ms)
  starts_are k = tab_same k (start_at fields n) (fields_before ms) start_is
