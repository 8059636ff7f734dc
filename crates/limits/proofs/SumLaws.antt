-- Laws of sums over lists, and of tests as sums. Assumes nothing.
use mathlib.Core.Path.{◌≡◌, refl, ap, ap₂, ◌∙◌}
use mathlib.Core.Bool.{Bool, true, false, ◌||◌}
use mathlib.Core.List.{List, [], ◌∷◌, ◌++◌, map}
use Prim.Native.Nat.{ℕ, zero, suc, ◌+◌, ◌≤◌}
use native.Mathlib.Omega.{arith}
use lib.ListN.{length}
use lib.Dec.{ltb}
use borrow.Author.Tests.{lt-ltb}
use Rattle.base.specs.Choose.{choose}
use Rattle.base.specs.Lists.{any, all_of}
use Rattle.limits.specs.Sums.{sum, bit}

-- a test of one or the other
pub or_sum : (a b : ℕ) → (ltb 0 a || ltb 0 b) ≡ ltb 0 (a + b)
or_sum zero b = ap (ltb 0) (let z : b ≡ 0 + b = omega arith in z)
or_sum (suc a) b = let p : ltb 0 (suc a) ≡ true = lt-ltb 0 (suc a) (omega arith) in let q : ltb 0 (suc a + b) ≡ true = lt-ltb 0 (suc a + b) (omega arith) in rw (p, q)

module _ {ℓ} {A : Type ℓ} where
  pub sum_same : (v w : A → ℕ) → ((x : A) → v x ≡ w x) → (xs : List A) → sum v xs ≡ sum w xs
  unfolding sum
  sum_same v w h [] = refl
  sum_same v w h (x ∷ xs) = let a = h x in let b = sum_same v w h xs in omega arith

  pub sum_below : (v w : A → ℕ) → ((x : A) → v x ≤ w x) → (xs : List A) → sum v xs ≤ sum w xs
  unfolding sum
  sum_below v w h [] = omega arith
  sum_below v w h (x ∷ xs) = let a = h x in let b = sum_below v w h xs in omega arith

  pub sum_zero : (w : A → ℕ) → ((x : A) → w x ≡ 0) → (xs : List A) → sum w xs ≡ 0
  unfolding sum
  sum_zero w h [] = refl
  sum_zero w h (x ∷ xs) = let a = h x in let b = sum_zero w h xs in omega arith

  pub sum_ones : (w : A → ℕ) → ((x : A) → w x ≡ 1) → (xs : List A) → sum w xs ≡ length xs
  unfolding sum
  sum_ones w h [] = refl
  sum_ones w h (x ∷ xs) = let a = h x in let b = sum_ones w h xs in omega arith

  pub sum_plus : (v w : A → ℕ) (xs : List A) → sum (λ x. v x + w x) xs ≡ sum v xs + sum w xs
  unfolding sum
  sum_plus v w [] = refl
  sum_plus v w (x ∷ xs) = let b = sum_plus v w xs in omega arith

  pub sum_append : (w : A → ℕ) (xs ys : List A) → sum w (xs ++ ys) ≡ sum w xs + sum w ys
  unfolding sum
  sum_append w [] ys = (let z : sum w ys ≡ 0 + sum w ys = omega arith in z)
  sum_append w (x ∷ xs) ys = let b = sum_append w xs ys in omega arith

pub any_sum : {A : Type 0} (p : A → Bool) (w : A → ℕ) → ((x : A) → p x ≡ ltb 0 (w x)) → (xs : List A) → any p xs ≡ ltb 0 (sum w xs)
unfolding any sum
any_sum p w h [] = refl
any_sum p w h (x ∷ xs) = ap₂ (λ (a b : Bool). a || b) (h x) (any_sum p w h xs) ∙ or_sum (w x) (sum w xs)

module _ {ℓ κ} {A : Type ℓ} {B : Type κ} (w : B → ℕ) where
  pub sum_map : (g : A → B) (xs : List A) → sum w (map g xs) ≡ sum (λ x. w (g x)) xs
  unfolding sum
  sum_map g [] = refl
  sum_map g (x ∷ xs) = ap (λ (n : ℕ). w (g x) + n) (sum_map g xs)

  pub sum_all_of : (g : A → List B) (xs : List A) → sum w (all_of g xs) ≡ sum (λ x. sum w (g x)) xs
  unfolding sum all_of
  sum_all_of g [] = refl
  sum_all_of g (x ∷ xs) = let a = sum_append w (g x) (all_of g xs) in let b = sum_all_of g xs in omega arith

pub bit_sum : (t : Bool) → t ≡ ltb 0 (bit t)
unfolding choose
bit_sum true = refl
bit_sum false = refl
