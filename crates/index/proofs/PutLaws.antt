-- Rows put in a table: their order does not matter. Assumes nothing.
use mathlib.Core.Path.{◌≡◌, refl, ap, ◌∙◌}
use mathlib.Core.List.{List, [], ◌∷◌}
use Prim.Native.Nat.{ℕ, ◌+◌, ◌<◌}
use native.Mathlib.Omega.{arith}
use lib.ListN.{length, length-set}
use lib.Seq.{set_comm}
use Rattle.index.specs.Tree.{put, fill}
use Rattle.index.specs.declared.Row.{Row}

-- a row may be put after those behind it
pub put_fill : (rs : List Row) (t : List Row) (i k : ℕ) (r : Row) → k < i → put (fill t i rs) k r ≡ fill (put t k r) i rs
unfolding fill
put_fill [] t i k r h = refl
put_fill (q ∷ rs) t i k r h =
    put_fill rs (put t i q) (i + 1) k r (omega arith) ∙ ap (λ (u : List Row). fill u (i + 1) rs) (set_comm t i k q r (λ e. omega arith))

pub fill_length : (rs : List Row) (t : List Row) (i : ℕ) → length (fill t i rs) ≡ length t
unfolding fill
fill_length [] t i = refl
fill_length (r ∷ rs) t i = fill_length rs (put t i r) (i + 1) ∙ length-set t i r
