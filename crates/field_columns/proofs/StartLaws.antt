-- How many stand before the first that fails a test, and where a message's rows begin. Assumes nothing.
use mathlib.Core.Path.{◌≡◌, sym, ap, ◌∙◌}
use mathlib.Core.Bool.{Bool, true, false}
use mathlib.Core.List.{List, [], ◌∷◌}
use Prim.Native.Nat.{ℕ, zero, suc, ◌+◌, ◌≤◌, ◌<◌}
use native.Mathlib.Omega.{arith}
use lib.ListN.{length, get_or}
use borrow.Author.Tests.{le-leb, lt-leb, leb-true}
use Rattle.base.specs.Choose.{choose, choose_case, counted}
use Rattle.base.specs.Lists.{first_failing}
use Rattle.message_graph.specs.Tab.{length_tab, tab_at}
use Rattle.index.specs.Tree.{row_at}
use Rattle.index.specs.declared.Row.{Row}
use Rattle.field_columns.specs.Columns.{rows_counted, first_rows, before, start_at}

module _ {ℓ} {A : Type ℓ} (p : A → Bool) where
  pub failing_within : (xs : List A) → first_failing p xs ≤ length xs
  unfolding first_failing
  failing_within [] = omega arith
  failing_within (x ∷ xs) = let h = failing_within xs in choose_case (λ (n : ℕ). n ≤ length (x ∷ xs)) (p x) (λ _. omega arith) (λ _. omega arith)

  failing_more : (xs : List A) (k : ℕ) (d : A) → k < length xs → k ≤ first_failing p xs → p (get_or xs k d) ≡ true → k + 1 ≤ first_failing p xs
  unfolding first_failing choose
  failing_more [] k d h l e = absurd (omega arith)
  failing_more (x ∷ xs) zero d h l e = rw e (omega arith)
  failing_more (x ∷ xs) (suc k) d h l e = let c = counted (p x) (first_failing p xs) k l in let on = failing_more xs k d (omega arith) c.1 e in rw c.0 (omega arith)

  failing_here : (xs : List A) (k : ℕ) (d : A) → k < length xs → k ≤ first_failing p xs → p (get_or xs k d) ≡ false → k ≡ first_failing p xs
  unfolding first_failing choose
  failing_here [] k d h l e = absurd (omega arith)
  failing_here (x ∷ xs) zero d h l e = rw e
  failing_here (x ∷ xs) (suc k) d h l e = let c = counted (p x) (first_failing p xs) k l in let on = failing_here xs k d (omega arith) c.1 e in rw c.0 (omega arith)

failing_weaker {ℓ} : {A : Type ℓ} (p q : A → Bool) → ((a : A) → p a ≡ true → q a ≡ true) → (xs : List A) → first_failing p xs ≤ first_failing q xs
unfolding first_failing choose
failing_weaker p q weaker [] = omega arith
failing_weaker p q weaker (x ∷ xs) =
    let on = failing_weaker p q weaker xs in
    choose_case (λ (n : ℕ). n ≤ choose (q x) (1 + first_failing q xs) 0) (p x) (λ e. rw (weaker x e) (omega arith)) (λ _. omega arith)

module _ (fields : List Row) (count : ℕ) where
  abbrev rows : List Row
  rows = first_rows fields count

  rows_are_counted : length rows ≡ count
  rows_are_counted = length_tab count (row_at fields)

  pub start_within : (i : ℕ) → first_failing (before i) rows ≤ count
  start_within i = let h = failing_within (before i) rows in let n = rows_are_counted in omega arith

  -- a message's rows begin where those of the one before it do, or later
  pub start_next : (i k : ℕ) → k ≡ first_failing (before i) rows → k ≤ first_failing (before (i + 1)) rows
  start_next i k e =
      let h = failing_weaker (before i) (before (i + 1)) (λ r t. let l = leb-true r.up i t in le-leb r.up (i + 1) (omega arith)) rows in
      omega arith

  module _ (i k : ℕ) (passed : k ≤ first_failing (before i) rows) where
    module _ (h : k < count) (row : Row) (is : row ≡ row_at fields k) (up : ℕ) (up_is : up ≡ row.up) where
      row_here : get_or rows k row ≡ row
      row_here = tab_at count (row_at fields) row k h ∙ sym is

      in_rows : k < length rows
      in_rows = let n = rows_are_counted in omega arith

      pub start_here : i < up → k ≡ first_failing (before i) rows
      start_here l = failing_here (before i) rows k row in_rows passed (ap (before i) row_here ∙ lt-leb row.up i (omega arith))

      pub start_more : up ≤ i → k + 1 ≤ first_failing (before i) rows
      start_more l = failing_more (before i) rows k row in_rows passed (ap (before i) row_here ∙ le-leb row.up i (omega arith))

pub start_is : (fields : List Row) (count i rows : ℕ) → rows ≡ rows_counted count → (k : ℕ) → k ≡ first_failing (before i) (first_rows fields rows) → k ≡ start_at fields count i
unfolding start_at
start_is fields count i n e k h = h ∙ ap (λ (n : ℕ). first_failing (before i) (first_rows fields n)) e
