-- Room for a row. Assumes nothing.
use mathlib.Core.Path.{◌≡◌, refl}
use mathlib.Core.Bool.{Bool, true, false}
use mathlib.Core.List.{List}
use Prim.Native.Nat.{ℕ, ◌<◌}
use native.Mathlib.Omega.{arith}
use lib.ListN.{length}
use lib.Dec.{ltb}
use borrow.Author.Tests.{ltb-true, ltb-false, le-ltb, lt-ltb}
use Rattle.base.specs.Choose.{choose}
use Rattle.base.specs.Tests.{both_ways}
use Rattle.declarations.specs.Rows.{has_room}
use Rattle.declarations.specs.declared.Declaration.{Declaration as Row}

pub room_is : (t : List Row) (i : ℕ) → has_room t i ≡ true → (i < 65536) × (i < length t)
unfolding has_room choose
room_is t i h = go (ltb 65535 i) refl h
  where
    go : (b : Bool) → ltb 65535 i ≡ b → choose b false (ltb i (length t)) ≡ true → (i < 65536) × (i < length t)
    go true e h = both_ways h refl
    go false e h = let l = ltb-false 65535 i e in (omega arith, ltb-true i (length t) h)

pub room_there : (t : List Row) (i : ℕ) → i < 65536 → i < length t → has_room t i ≡ true
unfolding has_room choose
room_there t i a b = rw (le-ltb 65535 i (omega arith), lt-ltb i (length t) b)
