-- A path's first byte, and its segments that are empty.
use Rattle.std.proofs.Common.{◌≡◌, refl, ℕ, Bool, ◌||◌, List, [], ◌∷◌, get_or, nat_eq, take, drop, length, ap, suc, ne_eqb, arith}
use Rattle.std.specs.Str.{bytes_eq}
use Rattle.std.specs.List.{list_any}
use Rattle.base.specs.Bytes.{b}
use Rattle.base.specs.Lists.{any, is_empty}
use Rattle.base.proofs.BytesLaws.{eqb_turned}
use Rattle.std.proofs.Math.Bool.{and-true}
use Rattle.split.specs.Split.{split}
use Rattle.extern_checks.specs.Doubles.{has_gap}

pub starts : (path : List ℕ) → bytes_eq (46 ∷ []) (take 1 path) ≡ nat_eq (get_or path 0 0) 46
starts [] = refl
starts (c ∷ s) = rw (and-true (nat_eq 46 c)) (eqb_turned 46 c)

pub any_is : {A : Type 0} (p : A → Bool) (xs : List A) → any p xs ≡ list_any p xs
unfolding any
any_is p [] = refl
any_is p (x ∷ xs) = ap (λ t. p x || t) (any_is p xs)

abbrev pub empty_test : List ℕ → Bool
empty_test xs = nat_eq (length xs) 0

empties : (xs : List (List ℕ)) → any is_empty xs ≡ list_any empty_test xs
unfolding any
empties [] = refl
empties ([] ∷ xs) = refl
empties ((c ∷ x) ∷ xs) = rw (ne_eqb (suc (length x)) 0 (λ e. omega arith)) (empties xs)

pub gap_is : (path : List ℕ) → has_gap path ≡ list_any empty_test (drop 1 (split (b ".") path))
unfolding has_gap
gap_is path = empties (drop 1 (split (b ".") path))
