-- A row that was put in a table stands there. Assumes nothing.
use mathlib.Core.Path.{◌≡◌, refl, ap, ◌∙◌}
use mathlib.Core.List.{List, [], ◌∷◌}
use Prim.Native.Nat.{ℕ, zero, suc, ◌+◌, ◌≤◌, ◌<◌}
use native.Mathlib.Omega.{arith}
use lib.ListN.{length, get_or, length-set}
use lib.Seq.{get_or-set_same, get_or-set_other}
use Rattle.index.specs.Tree.{put, fill, no_row, row_at}
use Rattle.index.specs.declared.Row.{Row}

row_other : (t : List Row) (i j : ℕ) (r : Row) → (j ≡ i → ⊥) → row_at (put t i r) j ≡ row_at t j
row_other t i j r ne = get_or-set_other t i j r no_row ne

-- rows before those filled stay
fill_kept : (rs : List Row) (t : List Row) (i j : ℕ) → j < i → row_at (fill t i rs) j ≡ row_at t j
unfolding fill
fill_kept [] t i j h = refl
fill_kept (r ∷ rs) t i j h = fill_kept rs (put t i r) (i + 1) j (omega arith) ∙ row_other t i j r (λ e. omega arith)

-- and rows behind them
pub row_behind : (rs : List Row) (t : List Row) (i j : ℕ) → i + length rs ≤ j → row_at (fill t i rs) j ≡ row_at t j
unfolding fill
row_behind [] t i j h = refl
row_behind (r ∷ rs) t i j h = row_behind rs (put t i r) (i + 1) j (omega arith) ∙ row_other t i j r (λ e. omega arith)

-- row k of those filled from row i on, where the table has room for them
fill_row : (rs : List Row) (t : List Row) (i k : ℕ) → i + length rs ≤ length t → k < length rs → row_at (fill t i rs) (i + k) ≡ get_or rs k no_row
unfolding fill
fill_row [] t i k room h = absurd (omega arith)
fill_row (r ∷ rs) t i zero room h =
    ap (row_at (fill (put t i r) (i + 1) rs)) (let e : i + 0 ≡ i = omega arith in e) ∙ fill_kept rs (put t i r) (i + 1) i (omega arith) ∙ get_or-set_same t i r no_row (omega arith)
fill_row (r ∷ rs) t i (suc k) room h =
    ap (row_at (fill (put t i r) (i + 1) rs)) (let e : i + suc k ≡ i + 1 + k = omega arith in e)
    ∙ fill_row rs (put t i r) (i + 1) k (let l = length-set t i r in omega arith) (omega arith)

-- the table has these rows from row i on
abbrev pub Stands : List Row → ℕ → List Row → Type 0
Stands t i rs = (k : ℕ) → k < length rs → row_at t (i + k) ≡ get_or rs k no_row

pub fill_stands : (rs : List Row) (t : List Row) (i : ℕ) → i + length rs ≤ length t → Stands (fill t i rs) i rs
fill_stands rs t i room k h = fill_row rs t i k room h
