-- The library's equality of two byte strings is the definition's, whose two sides may be swapped. Assumes nothing.
use Rattle.std.proofs.Common.{◌≡◌, refl, sym, ap, ℕ, Bool, true, ◌&&◌, eqb, eq-eqb, eqb-true, List, [], ◌∷◌}
use Rattle.std.specs.Str.{bytes_eq}
use Rattle.base.specs.Bytes.{same, same_refl, same_sound}
use Rattle.base.specs.Tests.{same_test}

pub same_bytes : (x y : List ℕ) → bytes_eq x y ≡ same x y
unfolding same
same_bytes [] [] = refl
same_bytes [] (y ∷ ys) = refl
same_bytes (x ∷ xs) [] = refl
same_bytes (x ∷ xs) (y ∷ ys) = ap (λ (t : Bool). eqb x y && t) (same_bytes xs ys)

pub eqb_turned : (a c : ℕ) → eqb a c ≡ eqb c a
eqb_turned a c = same_test (eqb a c) (eqb c a) (λ e. eq-eqb c a (sym (eqb-true a c e))) (λ e. eq-eqb a c (sym (eqb-true c a e)))

pub same_turned : (x y : List ℕ) → same x y ≡ same y x
same_turned x y = same_test (same x y) (same y x) (are y x) (are x y)
  where
    are : (a c : List ℕ) → same c a ≡ true → same a c ≡ true
    are a c e = rw (same_sound c a e) (same_refl a)
