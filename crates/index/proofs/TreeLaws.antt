-- A forest's size, and its rows in a table. Assumes nothing.
use mathlib.Core.Path.{◌≡◌, refl, sym, ap, ◌∙◌}
use mathlib.Core.List.{List, [], ◌∷◌, ◌++◌}
use Prim.Native.Nat.{ℕ, zero, suc, ◌+◌, ◌-◌}
use native.Mathlib.Numerals.{sub-one}
use native.Mathlib.Omega.{arith}
use lib.ListN.{length, length-append}
use Rattle.descriptor.specs.Descriptor.{Forest, done, node}
use Rattle.index.specs.Tree.{Place, forest_from, forest_in, size, rows, put, fill, Indexed}
use Rattle.index.specs.declared.Row.{Row}

pub forest_is : (left number : ℕ) (s : List ℕ) (base : ℕ) → (left ≡ 0 → ⊥) → forest_from (forest_in (left - 1) 3) number s base 0 ≡ forest_in left number s base
unfolding forest_in
forest_is zero number s base ne = absurd (ne refl)
forest_is (suc k) number s base ne = rw sub-one

pub rows_length : (F : Forest Place) (file up i : ℕ) → length (rows file up i F) ≡ size F
unfolding rows size
rows_length done file up i = refl
rows_length (node p nested following) file up i =
    let a = rows_length nested file (i + 1) (i + 1) in
    let c = rows_length following file up (i + 1 + size nested) in
    let l = length-append (rows file (i + 1) (i + 1) nested) (rows file up (i + 1 + size nested) following) in
    omega arith

pub fill_append : (t : List Row) (i : ℕ) (a b : List Row) → fill t i (a ++ b) ≡ fill (fill t i a) (i + length a) b
unfolding fill
fill_append t i [] b = ap (λ (n : ℕ). fill t n b) (let e : i ≡ i + 0 = omega arith in e)
fill_append t i (r ∷ a) b = fill_append (put t i r) (i + 1) a b ∙ ap (λ (n : ℕ). fill (fill (put t i r) (i + 1) a) n b) (let e : i + 1 + length a ≡ i + suc (length a) = omega arith in e)

-- a row, the rows of what is nested, and then those that follow
module _ (p : Place) (nested following : Forest Place) (file up : ℕ) (t : List Row) (k : ℕ) (row : Row) (u w : List Row) (next : ℕ)
    (row_is : row ≡ record { start = p.start; end = p.end; file = file; up = up; after = k + 1 + size nested })
    (put_is : u ≡ put t k row) (nested_is : Indexed nested file (k + 1) u (k + 1) w next) where
  pub node_counted : next + size following ≡ k + size (node p nested following)
  unfolding size
  node_counted = let n : next ≡ k + 1 + size nested = nested_is.counted in omega arith

  pub node_filled : fill w next (rows file up next following) ≡ fill t k (rows file up k (node p nested following))
  unfolding fill rows
  node_filled =
      let n : next ≡ k + 1 + size nested = nested_is.counted in
      let l : k + 1 + length (rows file (k + 1) (k + 1) nested) ≡ k + 1 + size nested = ap (λ (m : ℕ). k + 1 + m) (rows_length nested file (k + 1) (k + 1)) in
      rw (n, nested_is.table, put_is, row_is)
      (sym (fill_append (put t k (record { start = p.start; end = p.end; file = file; up = up; after = k + 1 + size nested })) (k + 1) (rows file (k + 1) (k + 1) nested) (rows file up (k + 1 + size nested) following)
      ∙ ap (λ (m : ℕ). fill (fill (put t k (record { start = p.start; end = p.end; file = file; up = up; after = k + 1 + size nested })) (k + 1) (rows file (k + 1) (k + 1) nested)) m (rows file up (k + 1 + size nested) following)) l))
