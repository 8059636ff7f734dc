-- A walk over the rows that may have a checksum, from the last to the first, and what is kept of the rows behind those that are left.
-- Assumes nothing.
use Rattle.std.specs.Prelude.{Option, Some}
use mathlib.Core.Path.{◌≡◌, ◌∙◌}
use mathlib.Core.List.{List}
use Prim.Native.Nat.{ℕ, ◌+◌, ◌≤◌}
use Rattle.declarations.specs.declared.Declaration.{Declaration as Row}
use Rattle.type_names.specs.RowSums.{Others, Seeking, Seeks, SeeksOn, IsSum}

module _ (bytes : List ℕ) (t : List Row) (sum : ℕ) where
  -- it is kept over rows with other checksums
  pub record Skips (kept : ℕ → Type 0) : Type 0 where
    pub over : (i k : ℕ) → kept i → k ≤ i → Others bytes t sum k i → kept k

  pub record Walk (kept : ℕ → Type 0) (l : Seeking) : Type 0 where
    pub set : l.set ≡ bytes
    pub rows : l.rows ≡ t
    pub given_sum : IsSum l.sum sum
    pub rest : kept l.left

  pub walk_start : {kept : ℕ → Type 0} (n : ℕ) (l : Seeking) {given : Option ℕ} → Skips kept → Seeks bytes t given n l → IsSum given sum → kept n → Walk kept l
  walk_start n l skips s is k = record {
    set = s.set;
    rows = s.rows;
    given_sum = rw s.given_sum is;
    rest = skips.over n l.left k s.fewer (s.others sum is);
  }

  module _ {kept : ℕ → Type 0} (old new : Seeking) (row : ℕ) (walk : Walk kept old) (on : SeeksOn old (Some row) new) where
    pub walk_at : kept (row + 1)
    walk_at = rw on.0 at walk.rest

    pub walk_on : {then : ℕ → Type 0} → Skips then → then row → Walk then new
    walk_on skips k =
        let others : Others bytes t sum new.left row = rw (walk.set, walk.rows) at (on.1.others sum walk.given_sum) in
        record {
          set = on.1.set ∙ walk.set;
          rows = on.1.rows ∙ walk.rows;
          given_sum = rw on.1.given_sum walk.given_sum;
          rest = skips.over row new.left k on.1.fewer others;
        }

  pub walk_end : {kept : ℕ → Type 0} (l : Seeking) → Walk kept l → l.left ≡ 0 → kept 0
  walk_end l walk z = rw z at walk.rest
