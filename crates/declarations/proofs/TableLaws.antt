-- A row that was put in a table stands there, and the others stay. Assumes nothing.
use mathlib.Core.Path.{◌≡◌, ap}
use mathlib.Core.List.{List}
use Prim.Native.Nat.{ℕ, ◌<◌}
use native.Mathlib.Omega.{arith}
use lib.ListN.{length, set}
use lib.Seq.{get_or-set_same, get_or-set_other}
use lib.Dec.{ltb}
use borrow.Author.Tests.{le-ltb}
use Rattle.base.specs.Choose.{choose}
use Rattle.declarations.specs.Rows.{row_at, no_row}
use Rattle.declarations.specs.declared.Declaration.{Declaration as Row}

module _ (t : List Row) (i : ℕ) (r : Row) where
  pub row_before : (j : ℕ) → j < i → row_at (set t i r) j ≡ row_at t j
  unfolding row_at
  row_before j h = ap (λ (x : Row). choose (ltb 65535 j) no_row x) (get_or-set_other t i j r no_row (λ e. omega arith))

  pub row_here : i < 65536 → i < length t → row_at (set t i r) i ≡ r
  unfolding row_at choose
  row_here small room = rw (le-ltb 65535 i (omega arith)) (get_or-set_same t i r no_row room)
