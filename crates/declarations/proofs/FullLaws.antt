-- Full names: by what a row stands in, and in a table with one row more. Assumes nothing.
use mathlib.Core.Path.{◌≡◌, refl, ap}
use mathlib.Core.List.{List, [], ◌++◌}
use Prim.Native.Nat.{ℕ, zero, suc, ◌≤◌}
use native.Mathlib.Omega.{arith}
use lib.Dec.{ltb}
use borrow.Author.Tests.{ltb-false, le-ltb}
use Rattle.base.specs.Choose.{choose, choose_case}
use Rattle.name_rules.specs.FullNames.{◌·◌}
use lib.ListN.{set}
use Rattle.declarations.specs.Rows.{row_at}
use Rattle.declarations.specs.Listed.{name_of, above, full_by, full, listed_row, listed, Listed}
use Rattle.declarations.specs.declared.Declaration.{Declaration as Row}
use Rattle.declarations.proofs.TableLaws.{row_before}

pub above_before : (i : ℕ) (r : Row) → above i r ≤ i
above_before i r = choose_case (λ (k : ℕ). k ≤ i) (ltb i r.up) (λ _. omega arith) (λ e. ltb-false i r.up e)

pub above_is : (i : ℕ) (r : Row) → r.up ≤ i → above i r ≡ r.up
unfolding choose
above_is i r h = rw (le-ltb i r.up h)

module _ (bytes : List ℕ) (t : List Row) where
  enough : (n m k : ℕ) → k ≤ n → k ≤ m → full_by bytes t n k ≡ full_by bytes t m k
  unfolding full_by
  enough zero zero k a b = refl
  enough zero (suc m) zero a b = refl
  enough zero (suc m) (suc i) a b = absurd (omega arith)
  enough (suc n) zero zero a b = refl
  enough (suc n) zero (suc i) a b = absurd (omega arith)
  enough (suc n) (suc m) zero a b = refl
  enough (suc n) (suc m) (suc i) a b =
      let l = above_before i (row_at t i) in
      ap (λ (scope : List ℕ). scope · name_of bytes (row_at t i)) (enough n m (above i (row_at t i)) (omega arith) (omega arith))

  pub full_none : full bytes t 0 ≡ []
  unfolding full full_by
  full_none = refl

  pub full_step : (i : ℕ) → full bytes t (suc i) ≡ full bytes t (above i (row_at t i)) · name_of bytes (row_at t i)
  unfolding full full_by
  full_step i =
      let l = above_before i (row_at t i) in
      ap (λ (scope : List ℕ). scope · name_of bytes (row_at t i)) (enough i (above i (row_at t i)) (above i (row_at t i)) l (omega arith))

-- one row more
module _ (bytes : List ℕ) (t : List Row) (b : ℕ) (r : Row) where
  full_by_put : (n k : ℕ) → k ≤ b → full_by bytes (set t b r) n k ≡ full_by bytes t n k
  unfolding full_by
  full_by_put zero k h = refl
  full_by_put (suc n) zero h = refl
  full_by_put (suc n) (suc i) h =
      let l = above_before i (row_at t i) in
      rw (row_before t b r i (omega arith)) (ap (λ (scope : List ℕ). scope · name_of bytes (row_at t i)) (full_by_put n (above i (row_at t i)) (omega arith)))

  pub full_put : (k : ℕ) → k ≤ b → full bytes (set t b r) k ≡ full bytes t k
  unfolding full
  full_put k h = full_by_put k k h

  pub listed_put : (n : ℕ) → n ≤ b → listed bytes (set t b r) n ≡ listed bytes t n
  unfolding listed
  listed_put zero h = refl
  listed_put (suc n) h = rw (row_before t b r n (omega arith), full_put (suc n) h) (ap (λ (l : List Listed). l ++ listed_row bytes (full bytes t (suc n)) (row_at t n)) (listed_put n (omega arith)))
