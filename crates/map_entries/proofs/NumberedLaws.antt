-- What is said of a message, by its number. Assumes nothing.
use mathlib.Core.Path.{◌≡◌, refl, sym, ap, ◌∙◌}
use mathlib.Core.Bool.{Bool, true, false}
use mathlib.Core.List.{List, ◌∷◌}
use Prim.Native.Nat.{ℕ, zero, suc, ◌+◌, ◌≤◌, ◌<◌}
use native.Mathlib.Omega.{arith}
use lib.Dec.{eqb}
use lib.ListN.{length, get_or, replicate}
use borrow.Author.Tests.{eq-eqb, ne_eqb, eqb-true, eqb-false}
use Rattle.std.proofs.lemmas.List.{get_or-map}
use Rattle.base.specs.Choose.{choose}
use Rattle.base.specs.Lists.{map_length}
use Rattle.map_entries.specs.Named.{joined}
use Rattle.map_entries.specs.Numbers.{number_of, numbers}
use Rattle.map_entries.specs.declared.Namers.{Namers}
use Rattle.map_entries.specs.declared.Namers.TheVariants.{Nobody, Maps, Others}

module _ (first second : Namers) where
  pub join_nobody : first ≡ Nobody → number_of second ≡ joined (number_of first) (number_of second)
  unfolding joined number_of choose
  join_nobody e = rw e

  pub join_others : first ≡ Others → number_of Others ≡ joined (number_of first) (number_of second)
  unfolding joined number_of choose
  join_others e = rw e (by (eqb 1 (number_of second)))
    where
      by : (b : Bool) → number_of Others ≡ choose b 1 1
      by true = refl
      by false = refl

  module _ (m : ℕ) (first_is : first ≡ Maps m) (r : Bool) (r_is : r ≡ eqb (number_of second) (m + 2)) where
    pub join_same : r ≡ true → number_of first ≡ joined (number_of first) (number_of second)
    unfolding joined number_of choose
    join_same h = let e = eqb-true (number_of second) (m + 2) (sym r_is ∙ h) in rw (first_is, e, ne_eqb (m + 2) 0 (λ q. omega arith), eq-eqb (m + 2) (m + 2) refl)

    pub join_unlike : r ≡ false → number_of Others ≡ joined (number_of first) (number_of second)
    unfolding joined number_of choose
    join_unlike h = let d = eqb-false (number_of second) (m + 2) (sym r_is ∙ h) in rw (first_is, ne_eqb (m + 2) 0 (λ q. omega arith), ne_eqb (m + 2) (number_of second) (λ q. d (sym q)))

pub ruleset join_laws = (join_nobody, join_same, join_unlike, join_others)

module _ (who : List Namers) (i : ℕ) where
  pub said_at : (x : Namers) → i < length who → x ≡ get_or who i Nobody → number_of x ≡ get_or (numbers who) i 0
  said_at x h e = ap number_of e ∙ sym (get_or-map number_of who i Nobody 0 h)

  pub said_past : length who ≤ i → length (numbers who) ≤ i
  said_past h = let n = map_length number_of who in omega arith

pub all_nobody : (n : ℕ) → numbers (replicate n Nobody) ≡ replicate n 0
unfolding number_of
all_nobody zero = refl
all_nobody (suc n) = ap (λ (l : List ℕ). 0 ∷ l) (all_nobody n)
