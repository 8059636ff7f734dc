-- Reading step by step: a step gives what stands at a place and the next place, or a fault. Assumes nothing.
use Rattle.std.specs.Prelude.{◌≡◌, Bool, true, false, List, [], ◌∷◌, ltb}
use Rattle.std.proofs.Math.Path.{refl, sym, ap}
use Prim.Native.Nat.{ℕ, zero, suc, ◌-◌, ◌≤◌, ◌<◌}
use native.Mathlib.Omega.{arith}
use Rattle.std.proofs.Math.Decide.{dec_lt}
use Rattle.base.specs.Choose.{choose, then_lt, else_lt}

pub data Step : Type 0 where
  item : ℕ → ℕ → Step
  fault : Step

-- all that the steps give: items, and at last the end or a fault
infixr 50 ◌then◌
pub data Run : Type 0 where
  ended broken : Run
  ◌then◌ : ℕ → Run → Run

unfoldable pub on_step : Step → Run → (ℕ → ℕ → Run) → Run
on_step (item x next) b f = f x next
on_step fault b f = b

-- the steps of f from `at` on, up to the place n; k is their largest number
unfoldable pub steps : (ℕ → Step) → ℕ → ℕ → ℕ → Run
steps f n zero at = ended
steps f n (suc k) at = choose (ltb at n) (on_step (f at) broken (λ x next. x then steps f n k next)) ended

-- each step leads on by a place at least, so there are as many steps as places at most
unfoldable pub run : (ℕ → Step) → ℕ → ℕ → Run
run f n at = steps f n (n - at) at

-- was there no fault?
abbrev pub whole : Run → Bool
whole ended = true
whole broken = false
whole (x then r) = whole r

-- the items, up to the first fault if there is one
abbrev pub items : Run → List ℕ
items ended = []
items broken = []
items (x then r) = x ∷ items r

-- each step leads on
abbrev pub Forward : (ℕ → Step) → Type 0
Forward f = (at x next : ℕ) → f at ≡ item x next → at < next

module _ (f : ℕ → Step) (n : ℕ) where
  pub run_end : (at : ℕ) → n ≤ at → run f n at ≡ ended
  unfolding run steps
  run_end at h = let e : n - at ≡ 0 = omega arith in rw e

  opened : (k at : ℕ) → at < n → steps f n (suc k) at ≡ on_step (f at) broken (λ x next. x then steps f n k next)
  unfolding steps
  opened k at h = sym (then_lt _ _ _ at n h refl)

  pub run_fault : (at : ℕ) → at < n → f at ≡ fault → run f n at ≡ broken
  unfolding run on_step
  run_fault at h e = let s : n - at ≡ suc (n - suc at) = omega arith in rw (s, opened (n - suc at) at h, e)

  module _ (forward : Forward f) where
    -- more steps than places are left make no difference
    enough : (k j at : ℕ) → n - at ≤ k → n - at ≤ j → steps f n k at ≡ steps f n j at
    unfolding steps on_step
    enough zero zero at p q = refl
    enough zero (suc j) at p q = else_lt _ _ _ at n (omega arith) refl
    enough (suc k) zero at p q = sym (else_lt _ _ _ at n (omega arith) refl)
    enough (suc k) (suc j) at p q =
        ap (λ (r : Run). choose (ltb at n) r ended)
        (go (f at) refl (λ next h. enough k j next (omega arith) (omega arith)))
      where
        go : (w : Step) → f at ≡ w → ((next : ℕ) → at < next → steps f n k next ≡ steps f n j next) → on_step w broken (λ x next. x then steps f n k next) ≡ on_step w broken (λ x next. x then steps f n j next)
        go fault e same = refl
        go (item x next) e same = ap (λ (r : Run). x then r) (same next (forward at x next e))

    pub run_item : (at x next : ℕ) → at < n → f at ≡ item x next → run f n at ≡ x then run f n next
    unfolding run on_step
    run_item at x next h e =
        let s : n - at ≡ suc (n - suc at) = omega arith in
        let g : at < next = forward at x next e in
        rw (s, opened (n - suc at) at h, e) (ap (λ (r : Run). x then r) (enough (n - suc at) (n - next) next (omega arith) (omega arith)))

    -- what holds at the end and at a fault, and is led back over each step, holds of the whole
    pub run_ind : (P : ℕ → Run → Type 0) → ((at : ℕ) → n ≤ at → P at ended) → ((at : ℕ) → at < n → f at ≡ fault → P at broken) → ((at x next : ℕ) (r : Run) → at < n → f at ≡ item x next → P next r → P at (x then r)) → (at : ℕ) → P at (run f n at)
    run_ind P end break more at = go (n - at) at (omega arith)
      where
        at_step : (k at : ℕ) → n - at ≤ suc k → at < n → ((next : ℕ) → n - next ≤ k → P next (run f n next)) → (w : Step) → f at ≡ w → P at (run f n at)
        at_step k at p h rest fault e = rw (run_fault at h e) (break at h e)
        at_step k at p h rest (item x next) e =
            let g : at < next = forward at x next e in
            rw (run_item at x next h e) (more at x next (run f n next) h e (rest next (omega arith)))

        at_end : (at : ℕ) → n ≤ at → P at (run f n at)
        at_end at h = rw (run_end at h) (end at h)

        at_place : (k at : ℕ) → n - at ≤ suc k → ((next : ℕ) → n - next ≤ k → P next (run f n next)) → Dec (at < n) → P at (run f n at)
        at_place k at p rest (yes h) = at_step k at p h rest (f at) refl
        at_place k at p rest (no h) = at_end at (omega arith)

        go : (k at : ℕ) → n - at ≤ k → P at (run f n at)
        go zero at p = at_end at (omega arith)
        go (suc k) at p = at_place k at p (go k) (dec_lt at n)
