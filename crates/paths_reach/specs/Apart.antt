-- Lists of which no two places are related, and what a test finds in them. Assumes nothing.
use Rattle.std.specs.Prelude.{◌≡◌, Bool, true, false, ◌⊎◌}
use Rattle.std.proofs.Math.Path.{refl}
use Rattle.std.proofs.Common.{ap, sym, ◌∙◌, subst, inl, inr}
use mathlib.Core.List.Memᴰ
use mathlib.Core.List.{List, [], ◌∷◌, map, Memᴰ}
use Rattle.base.specs.Choose.{choose}
use Rattle.base.specs.Tests.{bool_cases}
use Rattle.paths_reach.specs.Reach.{those}

-- no two places of the list hold elements that R relates
pub data Apart {A : Type 0} (R : A → A → Type 0) : List A → Type 0 where
  apart_nil : Apart R []
  apart_cons : {x : A} {xs : List A} → ((y : A) → Memᴰ y xs → R x y → ⊥) → Apart R xs → Apart R (x ∷ xs)

pub apart_head : {A : Type 0} {R : A → A → Type 0} {x : A} {xs : List A} → Apart R (x ∷ xs) → (y : A) → Memᴰ y xs → R x y → ⊥
apart_head (apart_cons f r) = f

pub apart_tail : {A : Type 0} {R : A → A → Type 0} {x : A} {xs : List A} → Apart R (x ∷ xs) → Apart R xs
apart_tail (apart_cons f r) = r

-- so two elements that R relates stand at one place
pub apart_same : {A : Type 0} (R : A → A → Type 0) → ((a b : A) → R a b → R b a) → {a : A} {xs : List A} → Apart R xs → {b : A} → Memᴰ a xs → Memᴰ b xs → R a b → a ≡ b
apart_same R s c (Memᴰ.head e) (Memᴰ.head f) r = e ∙ sym f
apart_same R s {a} {xs = x ∷ xs} c {b} (Memᴰ.head e) (Memᴰ.tail m) r = absurd (apart_head c b m (subst (λ z. R z b) e r))
apart_same R s {a} {xs = x ∷ xs} c {b} (Memᴰ.tail m) (Memᴰ.head e) r = absurd (apart_head c a m (subst (λ z. R z a) e (s a b r)))
apart_same R s c (Memᴰ.tail m) (Memᴰ.tail n) r = apart_same R s (apart_tail c) m n r

pub apart_map : {A B : Type 0} (R : A → A → Type 0) (S : B → B → Type 0) (f : A → B) (xs : List A)
    → ((a b : A) → Memᴰ a xs → Memᴰ b xs → S (f a) (f b) → R a b) → Apart R xs → Apart S (map f xs)
apart_map R S f [] k c = apart_nil
apart_map R S f (x ∷ xs) k c =
    apart_cons
    (λ y m s. let (a, h, e) = Memᴰ.of_map f xs m in
    apart_head c a h (k x a (Memᴰ.head refl) (Memᴰ.tail h) (subst (λ z. S (f x) z) (sym e) s)))
    (apart_map R S f xs (λ a b m n. k a b (Memᴰ.tail m) (Memᴰ.tail n)) (apart_tail c))

-- ---- what a test finds
module _ {A : Type 0} (p : A → Bool) where
  those_yes : (x : A) (xs : List A) → p x ≡ true → those p (x ∷ xs) ≡ x ∷ those p xs
  unfolding those choose
  those_yes x xs e = rw e refl

  those_not : (x : A) (xs : List A) → p x ≡ false → those p (x ∷ xs) ≡ those p xs
  unfolding those choose
  those_not x xs e = rw e refl

  pub those_none : (xs : List A) → ((y : A) → Memᴰ y xs → p y ≡ true → ⊥) → those p xs ≡ []
  unfolding those
  those_none [] f = refl
  those_none (x ∷ xs) f = go (bool_cases (p x)) (those_none xs (λ y m. f y (Memᴰ.tail m)))
    where
      go : (p x ≡ true) ⊎ (p x ≡ false) → those p xs ≡ [] → those p (x ∷ xs) ≡ []
      go (inl e) ih = absurd (f x (Memᴰ.head refl) e)
      go (inr e) ih = those_not x xs e ∙ ih

-- a test that goes by R's classes finds just one place of a list whose elements lie apart
pub those_one : {A : Type 0} (R : A → A → Type 0) → ((a b : A) → R a b → R b a) → (p : A → Bool) (xs : List A) → Apart R xs → (x : A) → Memᴰ x xs → p x ≡ true
    → ((y : A) → Memᴰ y xs → p y ≡ true → R x y) → those p xs ≡ x ∷ []
those_one R s p [] c x m e k = absurd (Memᴰ.not-nil m)
those_one {A} R s p (z ∷ zs) c x m e k = go (Memᴰ.cases_cons m) (λ n. those_one R s p zs (apart_tail c) x n e (λ y h. k y (Memᴰ.tail h)))
  where
    go : (x ≡ z) ⊎ Memᴰ x zs → (Memᴰ x zs → those p zs ≡ x ∷ []) → those p (z ∷ zs) ≡ x ∷ []
    go (inl q) ih =
        those_yes p z zs (subst (λ w. p w ≡ true) q e)
        ∙ ap {B = List A} (λ (l : List A). z ∷ l) (those_none p zs (λ y h t. apart_head c y h (subst (λ w. R w y) q (k y (Memᴰ.tail h) t))))
        ∙ ap {B = List A} (λ (w : A). w ∷ []) (sym q)
    go (inr n) ih = by (bool_cases (p z))
      where
        by : (p z ≡ true) ⊎ (p z ≡ false) → those p (z ∷ zs) ≡ x ∷ []
        by (inl t) = absurd (apart_head c x n (s x z (k z (Memᴰ.head refl) t)))
        by (inr t) = those_not p z zs t ∙ ih n
