-- What stands at a place of a list. Assumes nothing.
use Rattle.std.specs.Prelude.{◌≡◌, refl, ℕ, zero, suc, ◌+◌, ◌<◌, length, get_or}
use Rattle.std.proofs.Common.{sym, ◌∙◌, ap, not-suc-le-zero, le_of_suc-le-suc, zero-add, suc-add, arith}
use mathlib.Core.List.{List, [], ◌∷◌, ◌++◌, map, Memᴰ}

-- x stands at k
pub data At {A : Type 0} (x : A) : List A → ℕ → Type 0 where
  first : {y : A} {xs : List A} → x ≡ y → At x (y ∷ xs) zero
  next : {y : A} {xs : List A} {k : ℕ} → At x xs k → At x (y ∷ xs) (suc k)

module _ {A : Type 0} where
  pub at_within : {x : A} {xs : List A} {k : ℕ} → At x xs k → k < length xs
  at_within (first e) = omega arith
  at_within (next p) = let h = at_within p in omega arith

  pub at_get_or : {x : A} {xs : List A} {k : ℕ} → At x xs k → (d : A) → get_or xs k d ≡ x
  at_get_or (first e) d = sym e
  at_get_or (next p) d = at_get_or p d

  pub at_some : (xs : List A) (k : ℕ) → k < length xs → (x : A) × At x xs k
  at_some [] k h = absurd (not-suc-le-zero h)
  at_some (x ∷ xs) zero h = (x, first refl)
  at_some (x ∷ xs) (suc k) h = let p = at_some xs k (le_of_suc-le-suc h) in (p.0, next p.1)

  -- one stands at one place alone
  pub at_one : {x y : A} {xs : List A} {k : ℕ} → At x xs k → At y xs k → x ≡ y
  at_one {x} p q = sym (at_get_or p x) ∙ at_get_or q x

  pub at_left : {x : A} {xs : List A} {k : ℕ} (ys : List A) → At x xs k → At x (xs ++ ys) k
  at_left ys (first e) = first e
  at_left ys (next p) = next (at_left ys p)

  pub at_right : {x : A} (xs : List A) {ys : List A} {k : ℕ} → At x ys k → At x (xs ++ ys) (length xs + k)
  at_right [] p = rw zero-add p
  at_right (y ∷ xs) p = rw suc-add (next (at_right xs p))

  pub mem_of_at : {x : A} {xs : List A} {k : ℕ} → At x xs k → Memᴰ x xs
  mem_of_at (first e) = Memᴰ.head e
  mem_of_at (next p) = Memᴰ.tail (mem_of_at p)

  pub at_map : {B : Type 0} (g : A → B) {x : A} {xs : List A} {k : ℕ} → At x xs k → At (g x) (map g xs) k
  at_map g (first e) = first (ap g e)
  at_map g (next p) = next (at_map g p)
