-- The loop of `is_named`: a name against the full name of a row, one own name after another from their ends. Assumes nothing.
use mathlib.Core.Path.{◌≡◌, refl, sym, ◌∙◌}
use mathlib.Core.Bool.{Bool, false}
use mathlib.Core.List.{List, [], ◌∷◌}
use Prim.Native.Nat.{ℕ, suc, ◌+◌, ◌≤◌, ◌<◌}
use native.Mathlib.Omega.{arith}
use lib.ListN.{length}
use lib.Dec.{eqb}
use borrow.Author.Tests.{le-ltb, lt-ltb, ne_eqb}
use Rattle.base.specs.Bytes.{same}
use Rattle.base.specs.Choose.{choose}
use Rattle.declarations.specs.Rows.{row_at}
use Rattle.declarations.specs.Listed.{above, full}
use Rattle.declarations.proofs.FullLaws.{full_none}
use Rattle.declarations.specs.declared.Declaration.{Declaration as Row}
use Rattle.type_names.specs.Fronts.{Climb, ClimbsOver}
use Rattle.type_names.specs.LookUp.{named}

pub named_past : (bytes : List ℕ) (t : List Row) (name : List ℕ) (row : ℕ) → 65535 < row → false ≡ named bytes t name row
unfolding named choose
named_past bytes t name row h = rw (lt-ltb 65535 row h)

pub named_is : (bytes : List ℕ) (t : List Row) (name : List ℕ) (row : ℕ) → row ≤ 65535 → (r : Bool) → r ≡ same (full bytes t (row + 1)) name → r ≡ named bytes t name row
unfolding named choose
named_is bytes t name row h r e = rw (le-ltb 65535 row h) e

module _ (bytes : List ℕ) (t : List Row) (name : List ℕ) (whole : ℕ) where
  -- what is left is to be the full name of the next row
  pub record Going (at : Climb) (left : List ℕ) : Type 0 where
    pub rows : at.rows ≡ t
    pub is : same (full bytes t at.code) left ≡ same (full bytes t whole) name

  pub going_start : (at : Climb) → at.rows ≡ t → at.code ≡ whole → Going at name
  going_start at rows code = record { rows = rows; is = rw code }

  module _ (at : Climb) (left : List ℕ) (going : Going at left) where
    module _ (i : ℕ) (new : Climb) (on : ClimbsOver at i new) where
      pub going_other : same (full bytes t (suc i)) left ≡ false → false ≡ same (full bytes t whole) name
      going_other h = sym h ∙ (rw on.here at going.is)

      pub going_more : (front : List ℕ) → same (full bytes t (suc i)) left ≡ same (full bytes t (above i (row_at t i))) front → Going new front
      going_more front h = record { rows = on.rows ∙ going.rows; is = rw (on.code, going.rows) (sym h ∙ (rw on.here at going.is)) }

    pub going_end : at.code ≡ 0 → (r : Bool) → r ≡ eqb (length left) 0 → r ≡ same (full bytes t whole) name
    unfolding same
    going_end z r is = is ∙ by left ∙ (rw (z, full_none bytes t) at going.is)
      where
        by : (l : List ℕ) → eqb (length l) 0 ≡ same [] l
        by [] = refl
        by (x ∷ l) = ne_eqb (suc (length l)) 0 (λ e. omega arith)
