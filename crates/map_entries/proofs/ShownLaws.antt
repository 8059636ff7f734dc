-- The messages of a table, with what they stand in, are those of the set. Assumes nothing.
use mathlib.Core.Path.{◌≡◌, refl, ap, ◌∙◌}
use mathlib.Core.Bool.{Bool, true}
use mathlib.Core.List.{List, [], ◌∷◌, ◌++◌}
use Prim.Native.Nat.{ℕ, zero, suc, ◌+◌, ◌-◌, ◌≤◌, ◌<◌}
use native.Mathlib.Numerals.{add-one}
use native.Mathlib.Omega.{arith}
use lib.ListN.{length, set}
use lib.Dec.{ltb}
use borrow.Author.Tests.{lt-ltb, le-ltb, eq-eqb, ne_eqb}
use Rattle.base.specs.Choose.{choose}
use Rattle.wire.specs.Records.{part}
use Rattle.descriptor.specs.Descriptor.{Bytes, Forest, done, node, MessageDescriptor}
use Rattle.descriptor.specs.Decode.{decode_message}
use Rattle.name_rules.specs.Accessors.{text}
use Rattle.name_rules.specs.FullNames.{◌·◌, entries}
use Rattle.declarations.specs.Rows.{kind_number, State, row_at, room}
use Rattle.declarations.specs.Listed.{name_of, full}
use Rattle.declarations.specs.declared.Declaration.{Declaration as Row}
use Rattle.declarations.proofs.TableLaws.{row_here}
use Rattle.declarations.proofs.RoomLaws.{room_is}
use Rattle.declarations.proofs.FullLaws.{above_is, full_step, full_put}
use Rattle.map_entries.specs.Named.{parent_kind}
use Rattle.map_entries.proofs.KeptLaws.{Kept, kept_push, full_same, parent_same}

-- a message: its full name, is it a map entry, the kind of what it stands in, and the index of its file
pub record Shown : Type 0 where
  pub full : Bytes
  pub entry : Bool
  pub parent : ℕ
  pub file : ℕ

-- the kind of the row with the code: 0 for none
unfoldable pub code_kind : List Row → ℕ → ℕ
code_kind t zero = 0
code_kind t (suc i) = kind_number (row_at t i).kind

unfoldable pub shown_as : Bytes → Bytes → ℕ → Row → List Shown
shown_as bytes full parent r =
    choose (ltb (kind_number r.kind) 2) [] (record { full = full; entry = (decode_message (part bytes r.start (r.end - r.start))).map_entry; parent = parent; file = r.file } ∷ [])

-- those of the first n rows
unfoldable pub shown : Bytes → List Row → ℕ → List Shown
shown bytes t zero = []
shown bytes t (suc i) = shown bytes t i ++ shown_as bytes (full bytes t (suc i)) (parent_kind t i) (row_at t i)

-- from the descriptors, the messages numbered from m on
unfoldable pub shown_messages : ℕ → ℕ → ℕ → Bytes → Forest MessageDescriptor → List Shown
shown_messages file m parent scope done = []
shown_messages file m parent scope (node a nested following) =
    record { full = scope · text a.name; entry = a.map_entry; parent = parent; file = file }
    ∷ (shown_messages file (m + 1) (m + 2) (scope · text a.name) nested
    ++ shown_messages file (m + 1 + length (entries (scope · text a.name) nested)) parent scope following)

abbrev pub all_shown : Bytes → State → List Shown
all_shown bytes x = shown bytes x.table x.rows

module _ (bytes : Bytes) where
  shown_same : (t u : List Row) (n : ℕ) → ((j : ℕ) → j < n → row_at t j ≡ row_at u j) → shown bytes t n ≡ shown bytes u n
  unfolding shown
  shown_same t u zero h = refl
  shown_same t u (suc i) h =
      rw (h i (omega arith), parent_same bytes t u i h, full_same bytes t u (suc i) h) (ap (λ (ss : List Shown). ss ++ shown_as bytes (full bytes u (suc i)) (parent_kind u i) (row_at u i)) (shown_same t u i (λ j l. h j (omega arith))))

  pub kind_kept : (x y : State) → Kept x y → (up : ℕ) → up ≤ x.rows → code_kind y.table up ≡ code_kind x.table up
  unfolding code_kind
  kind_kept x y k zero h = refl
  kind_kept x y k (suc i) h = ap (λ (r : Row). kind_number r.kind) (k.same i (omega arith))

  pub full_kept : (x y : State) → Kept x y → (up : ℕ) → up ≤ x.rows → full bytes y.table up ≡ full bytes x.table up
  full_kept x y k up h = full_same bytes y.table x.table up (λ j l. k.same j (omega arith))

  -- one row more
  module _ (x : State) (r : Row) (h : r.up ≤ x.rows) (free : room x ≡ true) (messages : ℕ) where
    abbrev next : State
    next = record { table = set x.table x.rows r; rows = x.rows + 1; messages = messages }

    here : row_at (set x.table x.rows r) x.rows ≡ r
    here = let f = room_is x.table x.rows free in row_here x.table x.rows r f.0 f.1

    pub new_full : full bytes (set x.table x.rows r) (suc x.rows) ≡ full bytes x.table r.up · name_of bytes r
    new_full =
        full_step bytes (set x.table x.rows r) x.rows
        ∙ rw (here, above_is x.rows r h) (ap (λ (scope : Bytes). scope · name_of bytes r) (full_put bytes x.table x.rows r r.up h))

    pub new_kind : code_kind (set x.table x.rows r) (suc x.rows) ≡ kind_number r.kind
    unfolding code_kind
    new_kind = ap (λ (q : Row). kind_number q.kind) here

    by_code : (t : List Row) (i up : ℕ) → (row_at t i).up ≡ up → up ≤ i → parent_kind t i ≡ code_kind t up
    unfolding parent_kind code_kind choose
    by_code t i zero e l = rw (eq-eqb (row_at t i).up 0 e)
    by_code t i (suc k) e l =
        let z : suc k - 1 ≡ k = omega arith in
        rw (e, ne_eqb (suc k) 0 (λ q. omega arith), le-ltb i (suc k) l, z)

    new_parent : parent_kind (set x.table x.rows r) x.rows ≡ code_kind x.table r.up
    new_parent =
        by_code (set x.table x.rows r) x.rows r.up (ap (λ (q : Row). q.up) here) h
        ∙ kind_kept x next (kept_push x r messages) r.up h

    pub new_shown : all_shown bytes next ≡ all_shown bytes x ++ shown_as bytes (full bytes x.table r.up · name_of bytes r) (code_kind x.table r.up) r
    unfolding shown
    new_shown =
        rw (add-one, here, new_parent, new_full)
        (ap (λ (ss : List Shown). ss ++ shown_as bytes (full bytes x.table r.up · name_of bytes r) (code_kind x.table r.up) r)
        (shown_same (set x.table x.rows r) x.table x.rows (kept_push x r messages).same))

  pub none_shown : (full : Bytes) (parent : ℕ) (r : Row) → kind_number r.kind < 2 → shown_as bytes full parent r ≡ []
  unfolding shown_as choose
  none_shown full parent r h = rw (lt-ltb (kind_number r.kind) 2 h)
