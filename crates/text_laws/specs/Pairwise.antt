-- Two lists side by side: what holds of each element and the one at its place in the other list. Assumes nothing.
use Rattle.std.specs.Prelude.{◌≡◌, Bool, List, [], ◌∷◌, map}
use Rattle.std.proofs.Math.Path.{refl, ap₂}
use Rattle.std.proofs.Math.Bool.{◌&&◌, ◌||◌}
use Rattle.base.specs.Lists.{all, any, is_empty}

pub data Pairwise {A B : Type 0} (P : A → B → Type 0) : List A → List B → Type 0 where
  nil : Pairwise P [] []
  cons : {x : A} {y : B} {xs : List A} {ys : List B} → P x y → Pairwise P xs ys → Pairwise P (x ∷ xs) (y ∷ ys)

module _ {A B : Type 0} {P : A → B → Type 0} where
  pub pairwise_empty : {xs : List A} {ys : List B} → Pairwise P xs ys → is_empty xs ≡ is_empty ys
  pairwise_empty nil = refl
  pairwise_empty (cons p ps) = refl

  pub pairwise_map : (g : A → B) → ((x : A) (y : B) → P x y → g x ≡ y) → {xs : List A} {ys : List B} → Pairwise P xs ys → map g xs ≡ ys
  pairwise_map g is nil = refl
  pairwise_map g is (cons p ps) = ap₂ ◌∷◌ (is _ _ p) (pairwise_map g is ps)

  module _ (f : A → Bool) (g : B → Bool) (is : (x : A) (y : B) → P x y → f x ≡ g y) where
    pub pairwise_all : {xs : List A} {ys : List B} → Pairwise P xs ys → all f xs ≡ all g ys
    unfolding all
    pairwise_all nil = refl
    pairwise_all (cons p ps) = ap₂ ◌&&◌ (is _ _ p) (pairwise_all ps)

    pub pairwise_any : {xs : List A} {ys : List B} → Pairwise P xs ys → any f xs ≡ any g ys
    unfolding any
    pairwise_any nil = refl
    pairwise_any (cons p ps) = ap₂ ◌||◌ (is _ _ p) (pairwise_any ps)
