-- Byte strings: the bytes of a quoted text, and equality of two byte strings as a test. Assumes nothing.
use Rattle.std.specs.Prelude.{ℕ, suc, ◌+◌, ◌<◌, ◌≤◌, ◌≡◌, refl, Bool, true, false, ◌&&◌, List, [], ◌∷◌, eqb, length, drop, get_or}
use Prim.Native.Char.{code}
use Prim.Native.String.{String, [] as []ˢ, ◌∷◌ as ◌∷ˢ◌}
use Rattle.std.proofs.Common.{sym, ap, ap₂, add-one, drop_of_length-le, drop-cons, eqb-true, eq-eqb, ne_eqb}
use Rattle.std.proofs.Math.Bool.{and-false}
use Rattle.base.specs.Tests.{and_left, and_right, both_ways}

-- the bytes of a quoted text (of ASCII characters)
abbrev pub b : String → List ℕ
b []ˢ = []
b (c ∷ˢ s) = code c ∷ b s

-- are these the same bytes?
unfoldable pub same : List ℕ → List ℕ → Bool
same [] [] = true
same [] (y ∷ ys) = false
same (x ∷ xs) [] = false
same (x ∷ xs) (y ∷ ys) = eqb x y && same xs ys

pub same_refl : (xs : List ℕ) → same xs xs ≡ true
unfolding same
same_refl [] = refl
same_refl (x ∷ xs) = rw (eq-eqb x x refl) (same_refl xs)

pub same_sound : (xs ys : List ℕ) → same xs ys ≡ true → xs ≡ ys
unfolding same
same_sound [] [] h = refl
same_sound [] (y ∷ ys) h = both_ways h refl
same_sound (x ∷ xs) [] h = both_ways h refl
same_sound (x ∷ xs) (y ∷ ys) h =
    ap₂ (λ (z : ℕ) (zs : List ℕ). z ∷ zs) (eqb-true x y (and_left (eqb x y) (same xs ys) h))
    (same_sound xs ys (and_right (eqb x y) (same xs ys) h))

-- byte strings of other lengths differ
pub same_length : (xs ys : List ℕ) → (length xs ≡ length ys → ⊥) → same xs ys ≡ false
unfolding same
same_length [] [] h = absurd (h refl)
same_length [] (y ∷ ys) h = refl
same_length (x ∷ xs) [] h = refl
same_length (x ∷ xs) (y ∷ ys) h =
    rw (same_length xs ys (λ e. h (ap suc e))) (and-false (eqb x y))

-- equal bytes in front are passed over
pub same_step : (x y : ℕ) (xs ys : List ℕ) → x ≡ y → same (x ∷ xs) (y ∷ ys) ≡ same xs ys
unfolding same
same_step x y xs ys e = rw (eq-eqb x y e)

pub same_stop : (x y : ℕ) (xs ys : List ℕ) → (x ≡ y → ⊥) → same (x ∷ xs) (y ∷ ys) ≡ false
unfolding same
same_stop x y xs ys n = rw (ne_eqb x y n)

-- ---- from index i on
pub same_more : (xs ys : List ℕ) (i : ℕ) → i < length xs → i < length ys → get_or xs i 0 ≡ get_or ys i 0 → same (drop (i + 1) xs) (drop (i + 1) ys) ≡ same (drop i xs) (drop i ys)
same_more xs ys i h k e = rw (drop-cons xs i 0 h, drop-cons ys i 0 k, add-one) (sym (same_step (get_or xs i 0) (get_or ys i 0) (drop (suc i) xs) (drop (suc i) ys) e))

pub same_unlike : (xs ys : List ℕ) (i : ℕ) → i < length xs → i < length ys → (get_or xs i 0 ≡ get_or ys i 0 → ⊥) → same (drop i xs) (drop i ys) ≡ false
same_unlike xs ys i h k n = rw (drop-cons xs i 0 h, drop-cons ys i 0 k) (same_stop (get_or xs i 0) (get_or ys i 0) (drop (suc i) xs) (drop (suc i) ys) n)

pub same_end : (xs ys : List ℕ) (i : ℕ) → length xs ≤ i → length ys ≤ i → same (drop i xs) (drop i ys) ≡ true
same_end xs ys i h k = rw (drop_of_length-le xs {i = i} h, drop_of_length-le ys {i = i} k) (same_refl [])
