-- What checksums tell of strings, and a table that is filled with them. Assumes nothing.
use Rattle.std.specs.Prelude.{ℕ, suc, ◌+◌, ◌*◌, ◌%◌, ◌^◌, ◌≤◌, ◌<◌, ◌≡◌, refl, Bool, true, false, ◌||◌, List, [], ◌∷◌, ◌++◌, map, eqb, length, take}
use Rattle.std.proofs.Common.{sym, ap, ◌∙◌, add-one, arith, length-set, take-suc-set, eq-eqb, lt-ltb, le-ltb}
use Rattle.std.proofs.Math.Decide.{dec_le}
use Rattle.base.specs.Bytes.{same, same_sound}
use Rattle.base.specs.Choose.{choose}
use Rattle.base.specs.Lists.{any}
use Rattle.base.specs.Tests.{or_false_left, or_false_right, or_false}
use Rattle.checksums.specs.Sums.{sum_from, sum_of, holds, Put}

-- of one string behind another
pub sum_append : (h : ℕ) (a c : List ℕ) → sum_from h (a ++ c) ≡ sum_from (sum_from h a) c
unfolding sum_from
sum_append h [] c = refl
sum_append h (x ∷ a) c = sum_append ((h * 1000003 + x) % 2 ^ 32) a c

pub sum_small : (h : ℕ) (s : List ℕ) → h < 2 ^ 32 → sum_from h s < 2 ^ 32
unfolding sum_from
sum_small h [] l = l
sum_small h (x ∷ s) l = sum_small ((h * 1000003 + x) % 2 ^ 32) s (omega arith)

-- a checksum goes on where another one ends
pub sum_on : (h : ℕ) (a c : List ℕ) → h < 2 ^ 32 → sum_from (sum_from h a % 2 ^ 32) c ≡ sum_from h (a ++ c)
sum_on h a c l =
    let s = sum_small h a l in
    let e : sum_from h a % 2 ^ 32 ≡ sum_from h a = omega arith in
    rw e (sym (sum_append h a c))

-- other checksums are those of other strings
pub other_sum : (x y : List ℕ) → eqb (sum_of x) (sum_of y) ≡ false → (x ≡ y → ⊥)
other_sum x y h is = let e = eq-eqb (sum_of x) (sum_of y) (ap sum_of is) in let z : ◌≡◌ {A = ℕ} 0 1 = cc in omega arith

pub unlike : (x y : List ℕ) → (x ≡ y → ⊥) → same x y ≡ false
unlike x y ne = by (same x y) refl
  where
    by : (t : Bool) → same x y ≡ t → t ≡ false
    by false e = refl
    by true e = absurd (ne (same_sound x y e))

-- a string is none of those that have other checksums
pub absent : {A : Type 0} (f : A → List ℕ) (x : List ℕ) (qs : List A) → holds (sum_of x) (map (λ (q : A). sum_of (f q)) qs) ≡ false → any (λ (q : A). same (f q) x) qs ≡ false
unfolding holds any
absent f x [] h = refl
absent f x (q ∷ qs) h =
    let first = or_false_left (eqb (sum_of x) (sum_of (f q))) _ h in
    or_false (unlike (f q) x (λ e. other_sum x (f q) first (sym e))) (absent f x qs (or_false_right (eqb (sum_of x) (sum_of (f q))) _ h))

pub holds_append : (x : ℕ) (a c : List ℕ) → holds x (a ++ c) ≡ (holds x a || holds x c)
unfolding holds
holds_append x [] c = refl
holds_append x (y ∷ a) c = by (eqb x y) (holds x a) (holds x c) (holds_append x a c)
  where
    by : (t : Bool) {u : Bool} (v w : Bool) → u ≡ (v || w) → (t || u) ≡ ((t || v) || w)
    by true v w e = refl
    by false v w e = e

-- ---- the first n numbers of the table are l, or n is more than it has room for
pub record Stored (t : List ℕ) (n : ℕ) (l : List ℕ) : Type 0 where
  pub is : n ≤ length t → take n t ≡ l

pub stored_none : (t : List ℕ) → Stored t 0 []
stored_none t = record { is = λ h. refl }

pub stored_more : {t : List ℕ} {n : ℕ} {l : List ℕ} → Stored t n l → {x : ℕ} {t' : List ℕ} {r : ℕ} → Put t n x t' r → Stored t' r (l ++ (x ∷ []))
unfolding choose
stored_more {t} {n} {l} s {x} {t'} {r} p = by (dec_le (suc n) (length t))
  where
    by : Dec (suc n ≤ length t) → Stored t' r (l ++ (x ∷ []))
    by (yes h) =
        let count : r ≡ n + 1 = p.count ∙ rw (lt-ltb n (length t) h) in
        record { is = λ fits. rw (count, p.table, add-one) (take-suc-set t n x h ∙ ap (λ (k : List ℕ). k ++ (x ∷ [])) (s.is (omega arith))) }
    by (no h) =
        let count : r ≡ length t + 1 = p.count ∙ rw (le-ltb n (length t) (omega arith)) in
        record { is = λ fits. absurd (omega (arith, ap length p.table ∙ length-set t n x)) }
