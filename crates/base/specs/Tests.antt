-- Laws of tests: a conjunction, a disjunction, and the two cases of a Bool. Assumes nothing.
use Rattle.std.specs.Prelude.{◌≡◌, refl, ◌⊎◌, Bool, true, false, ◌&&◌, ◌||◌}
use Rattle.std.proofs.Common.{sym, ap, ◌∙◌, inl, inr, true≢false}

pub bool_cases : (t : Bool) → (t ≡ true) ⊎ (t ≡ false)
bool_cases true = inl refl
bool_cases false = inr refl

-- no test is both
pub both_ways {ℓ} : {A : Type ℓ} {t : Bool} → t ≡ true → t ≡ false → A
both_ways p q = absurd (true≢false (sym p ∙ q))

pub and_left : (a b : Bool) → (a && b) ≡ true → a ≡ true
and_left true b p = refl
and_left false b p = p

pub and_right : (a b : Bool) → (a && b) ≡ true → b ≡ true
and_right true b p = p
and_right false b p = both_ways p refl

pub and_both : {a b : Bool} → a ≡ true → b ≡ true → (a && b) ≡ true
and_both {a} {b} p q = ap (λ (x : Bool). x && b) p ∙ q

pub or_left : {a : Bool} (b : Bool) → a ≡ true → (a || b) ≡ true
or_left b p = ap (λ (x : Bool). x || b) p

pub or_right : (a : Bool) {b : Bool} → b ≡ true → (a || b) ≡ true
or_right true p = refl
or_right false p = p

pub or_false : {a b : Bool} → a ≡ false → b ≡ false → (a || b) ≡ false
or_false p q = rw (p, q)

pub or_cases : (a b : Bool) → (a || b) ≡ true → (a ≡ true) ⊎ (b ≡ true)
or_cases true b p = inl refl
or_cases false b p = inr p

pub or_false_left : (a b : Bool) → (a || b) ≡ false → a ≡ false
or_false_left true b p = p
or_false_left false b p = refl

pub or_false_right : (a b : Bool) → (a || b) ≡ false → b ≡ false
or_false_right true b p = both_ways refl p
or_false_right false b p = p

pub and_false : (a b : Bool) → b ≡ false → (a && b) ≡ false
and_false true b p = p
and_false false b p = refl

-- the second test counts only where the first holds
pub and_same : (a b c : Bool) → (a ≡ true → b ≡ c) → (a && b) ≡ (a && c)
and_same true b c p = p refl
and_same false b c p = refl

-- a test that implies one that fails, fails
pub not_implied : {a b : Bool} → (a ≡ true → b ≡ true) → b ≡ false → a ≡ false
not_implied {a} {b} p q = by a p
  where
    by : (t : Bool) → (t ≡ true → b ≡ true) → t ≡ false
    by true h = both_ways (h refl) q
    by false h = refl

-- each implies the other
pub same_test : (a b : Bool) → (a ≡ true → b ≡ true) → (b ≡ true → a ≡ true) → a ≡ b
same_test true b p q = sym (p refl)
same_test false true p q = q refl
same_test false false p q = refl

pub by_test : (P : Bool → Type 0) (t : Bool) → (t ≡ true → P true) → (t ≡ false → P false) → P t
by_test P true f g = f refl
by_test P false f g = g refl
