-- If, then, else, and its laws: `choices` is what `search` goes through a definition's tests with.
use Rattle.std.specs.Prelude.{◌≡◌, refl, Bool, true, false, not, ◌&&◌, ℕ, suc, ◌+◌, ◌≤◌, ◌<◌, ltb, leb, eqb}
use Rattle.std.proofs.Common.{sym, ap, ◌∙◌, arith, le-ltb, lt-ltb, le-leb, eq-eqb, ne_eqb}
use Rattle.std.proofs.lemmas.Bool.{lt-leb}

unfoldable pub choose {ℓ} : {A : Type ℓ} → Bool → A → A → A
choose true a b = a
choose false a b = b

-- what holds of both, each under its test, holds of what is picked
pub choose_case {ℓ κ} : {A : Type ℓ} (P : A → Type κ) (t : Bool) {a b : A} → (t ≡ true → P a) → (t ≡ false → P b) → P (choose t a b)
unfolding choose
choose_case P true f g = f refl
choose_case P false f g = g refl

-- tests in turn, each with a number above 0: where the answer is 0, the first fails, and those behind it answer 0
pub not_passed : (t : Bool) (k n : ℕ) → choose t (suc k) n ≡ 0 → (t ≡ false) × (n ≡ 0)
unfolding choose
not_passed true k n e = absurd (omega arith)
not_passed false k n e = (refl, e)

-- a count that ends at the first that fails: where it is above k, the first passes, and k of those behind it are counted
pub counted : (t : Bool) (n k : ℕ) → suc k ≤ choose t (1 + n) 0 → (t ≡ true) × (k ≤ n)
unfolding choose
counted true n k h = (refl, omega arith)
counted false n k h = absurd (omega arith)

pub chosen : (t c : Bool) → choose t c true ≡ true → t ≡ true → c ≡ true
unfolding choose
chosen t c h e = ap (λ (u : Bool). choose u c true) (sym e) ∙ h

pub unless : (t c : Bool) → choose t false c ≡ (not t && c)
unfolding choose
unless true c = refl
unless false c = refl

module _ {ℓ} {A : Type ℓ} (x y z : A) where
  pub then_is : (t : Bool) → t ≡ true → z ≡ x → z ≡ choose t x y
  unfolding choose
  then_is t e h = rw e h

  pub else_is : (t : Bool) → t ≡ false → z ≡ y → z ≡ choose t x y
  unfolding choose
  else_is t e h = rw e h

  -- where the test is another function's answer r
  pub call_true : (r t : Bool) → r ≡ t → r ≡ true → z ≡ x → z ≡ choose t x y
  call_true r t e is = then_is t (sym e ∙ is)

  pub call_false : (r t : Bool) → r ≡ t → r ≡ false → z ≡ y → z ≡ choose t x y
  call_false r t e is = else_is t (sym e ∙ is)

  module _ (a b : ℕ) where
    pub then_eq : a ≡ b → z ≡ x → z ≡ choose (eqb a b) x y
    then_eq h = then_is (eqb a b) (eq-eqb a b h)

    pub else_eq : (a ≡ b → ⊥) → z ≡ y → z ≡ choose (eqb a b) x y
    else_eq h = else_is (eqb a b) (ne_eqb a b h)

    pub then_le : a ≤ b → z ≡ x → z ≡ choose (leb a b) x y
    then_le h = then_is (leb a b) (le-leb a b h)

    pub else_le : b < a → z ≡ y → z ≡ choose (leb a b) x y
    else_le h = else_is (leb a b) (lt-leb a b h)

    pub then_lt : a < b → z ≡ x → z ≡ choose (ltb a b) x y
    then_lt h = then_is (ltb a b) (lt-ltb a b h)

    pub else_lt : b ≤ a → z ≡ y → z ≡ choose (ltb a b) x y
    else_lt h = else_is (ltb a b) (le-ltb a b h)

pub ruleset choices = (then_eq, else_eq, then_le, else_le, then_lt, else_lt)

pub ruleset flags = (then_is, else_is)

pub ruleset calls = (call_true, call_false)
