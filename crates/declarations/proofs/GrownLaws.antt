-- Rows pushed to a table list the declarations in turn. Assumes nothing.
use mathlib.Core.Path.{◌≡◌, refl, sym, ap, ◌∙◌}
use mathlib.Core.Bool.{true}
use mathlib.Core.List.{List, [], ◌++◌, append-nil, append_assoc}
use Prim.Native.Nat.{ℕ, suc, ◌+◌, ◌≤◌, ◌<◌}
use native.Mathlib.Numerals.{add-one}
use native.Mathlib.Omega.{arith}
use lib.ListN.{length, set, length-set}
use Rattle.descriptor.specs.Descriptor.{Bytes}
use Rattle.name_rules.specs.FullNames.{◌·◌}
use Rattle.declarations.specs.Rows.{State, row_at, has_room}
use Rattle.declarations.specs.Listed.{name_of, full, Listed, listed_row, listed}
use Rattle.declarations.specs.declared.Declaration.{Declaration as Row}
use Rattle.declarations.proofs.RoomLaws.{room_there}
use Rattle.declarations.proofs.TableLaws.{row_here}
use Rattle.declarations.proofs.FullLaws.{above_is, full_step, full_put, listed_put}

-- room for cap rows in all
pub record Wide (cap : ℕ) (x : State) : Type 0 where
  pub small : cap ≤ 65536
  pub wide : cap ≤ length x.table

-- y has n rows more than x, which list ls, and m messages more
pub record Grown (bytes : Bytes) (cap : ℕ) (x y : State) (ls : List Listed) (n m : ℕ) : Type 0 where
  pub room : Wide cap y
  pub rows : y.rows ≡ x.rows + n
  pub messages : y.messages ≡ x.messages + m
  pub kept : (k : ℕ) → k ≤ x.rows → full bytes y.table k ≡ full bytes x.table k
  pub lists : listed bytes y.table y.rows ≡ listed bytes x.table x.rows ++ ls

pub grown_none : (bytes : Bytes) (cap : ℕ) (x : State) → Wide cap x → Grown bytes cap x x [] 0 0
grown_none bytes cap x w = record { room = w; rows = omega arith; messages = omega arith; kept = λ k h. refl; lists = sym (append-nil (listed bytes x.table x.rows)) }

pub grown_more : (bytes : Bytes) (cap : ℕ) (x y z : State) (ls ks : List Listed) (n m n₂ m₂ : ℕ) → Grown bytes cap x y ls n m → Grown bytes cap y z ks n₂ m₂ → Grown bytes cap x z (ls ++ ks) (n + n₂) (m + m₂)
grown_more bytes cap x y z ls ks n m n₂ m₂ a b =
    let p = a.rows in
    let q = b.rows in
    let r = a.messages in
    let s = b.messages in
    record {
      room = b.room;
      rows = omega arith;
      messages = omega arith;
      kept = λ k h. b.kept k (omega arith) ∙ a.kept k h;
      lists = b.lists ∙ ap (λ (l : List Listed). l ++ ks) a.lists ∙ append_assoc (listed bytes x.table x.rows) ls ks;
    }

module _ (bytes : Bytes) (cap : ℕ) (x : State) (w : Wide cap x) (free : x.rows < cap) (r : Row) (up : r.up ≤ x.rows) where
  pub has : has_room x.table x.rows ≡ true
  has = let a = w.small in let b = w.wide in room_there x.table x.rows (omega arith) (omega arith)

  there : row_at (set x.table x.rows r) x.rows ≡ r
  there = let a = w.small in let b = w.wide in row_here x.table x.rows r (omega arith) (omega arith)

  pub pushed_full : full bytes (set x.table x.rows r) (x.rows + 1) ≡ full bytes x.table r.up · name_of bytes r
  pushed_full =
      rw add-one
      (full_step bytes (set x.table x.rows r) x.rows
      ∙ rw (there, above_is x.rows r up) (ap (λ (scope : Bytes). scope · name_of bytes r) (full_put bytes x.table x.rows r r.up up)))

  pub pushed_lists : listed bytes (set x.table x.rows r) (x.rows + 1) ≡ listed bytes x.table x.rows ++ listed_row bytes (full bytes x.table r.up · name_of bytes r) r
  unfolding listed
  pushed_lists =
      let e : full bytes (set x.table x.rows r) (suc x.rows) ≡ full bytes x.table r.up · name_of bytes r = rw add-one at pushed_full in
      rw (add-one, e, there, listed_put bytes x.table x.rows r x.rows (omega arith))

  pub pushed : (m messages : ℕ) → messages ≡ x.messages + m
      → Grown bytes cap x (record { table = set x.table x.rows r; rows = x.rows + 1; messages = messages }) (listed_row bytes (full bytes x.table r.up · name_of bytes r) r) 1 m
  pushed m messages e =
      let l = length-set x.table x.rows r in
      let b = w.wide in
      record {
        room = record { small = w.small; wide = omega arith };
        rows = refl;
        messages = e;
        kept = λ k h. full_put bytes x.table x.rows r k h;
        lists = pushed_lists;
      }

pub grown_as : (bytes : Bytes) (cap : ℕ) (x y : State) (ls ks : List Listed) (n n₂ m m₂ : ℕ) → Grown bytes cap x y ls n m → ls ≡ ks → n ≡ n₂ → m ≡ m₂ → Grown bytes cap x y ks n₂ m₂
grown_as bytes cap x y ls ks n n₂ m m₂ g a b c =
    record { room = g.room; rows = g.rows ∙ ap (λ (i : ℕ). x.rows + i) b; messages = g.messages ∙ ap (λ (i : ℕ). x.messages + i) c; kept = g.kept; lists = g.lists ∙ ap (λ (l : List Listed). listed bytes x.table x.rows ++ l) a }
