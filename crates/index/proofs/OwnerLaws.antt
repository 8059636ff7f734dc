-- Laws of lists of what each holds. Assumes nothing.
use mathlib.Core.Path.{◌≡◌, refl, sym, ap, ◌∙◌}
use mathlib.Core.List.{List, [], ◌∷◌, ◌++◌, map, map-append}
use Prim.Native.Nat.{ℕ, ◌+◌}
use lib.ListN.{length, length-append, replicate, replicate-append-replicate}
use Rattle.base.specs.Lists.{all_of}
use Rattle.index.specs.Owners.{owners}

module _ {ℓ κ} {A : Type ℓ} {B : Type κ} where
  pub all_of_same : (f g : A → List B) → ((a : A) → f a ≡ g a) → (xs : List A) → all_of f xs ≡ all_of g xs
  unfolding all_of
  all_of_same f g same [] = refl
  all_of_same f g same (a ∷ xs) = ap (λ (l : List B). l ++ all_of f xs) (same a) ∙ ap (λ (l : List B). g a ++ l) (all_of_same f g same xs)

module _ {ℓ κ μ} {A : Type ℓ} {B : Type κ} {C : Type μ} where
  pub all_of_map : (f : B → List C) (g : A → B) (xs : List A) → all_of f (map g xs) ≡ all_of (λ a. f (g a)) xs
  unfolding all_of
  all_of_map f g [] = refl
  all_of_map f g (a ∷ xs) = ap (λ (l : List C). f (g a) ++ l) (all_of_map f g xs)

  pub map_all_of : (g : B → C) (f : A → List B) (xs : List A) → map g (all_of f xs) ≡ all_of (λ a. map g (f a)) xs
  unfolding all_of
  map_all_of g f [] = refl
  map_all_of g f (a ∷ xs) = map-append g (f a) (all_of f xs) ∙ ap (λ (l : List C). map g (f a) ++ l) (map_all_of g f xs)

-- only the lengths count for owners
pub owners_map {ℓ κ μ ν} : {A : Type ℓ} {B : Type κ} {C : Type μ} {D : Type ν} (f : A → List C) (g : B → List D) (h : A → B) → ((a : A) → length (f a) ≡ length (g (h a)))
    → (i : ℕ) (xs : List A) → owners f i xs ≡ owners g i (map h xs)
unfolding owners
owners_map f g h same i [] = refl
owners_map f g h same i (a ∷ xs) =
    ap (λ (n : ℕ). replicate n i ++ owners f (i + 1) xs) (same a) ∙ ap (λ (l : List ℕ). replicate (length (g (h a))) i ++ l) (owners_map f g h same (i + 1) xs)

-- items of holders that stand in one place: as many as they hold together
pub one_owner {ℓ κ} : {A : Type ℓ} {B : Type κ} (held : A → List B) (number : A → ℕ) (n : ℕ) (xs : List A) → map number xs ≡ replicate (length xs) n
    → all_of (λ a. replicate (length (held a)) (number a)) xs ≡ replicate (length (all_of held xs)) n
unfolding all_of
one_owner held number n [] e = refl
one_owner held number n (a ∷ xs) e =
    let head : number a ≡ n = cc in
    let tail : map number xs ≡ replicate (length xs) n = cc in
    ap (λ (k : ℕ). replicate (length (held a)) k ++ all_of (λ a. replicate (length (held a)) (number a)) xs) head
    ∙ ap (λ (l : List ℕ). replicate (length (held a)) n ++ l) (one_owner held number n xs tail)
    ∙ replicate-append-replicate (length (held a)) (length (all_of held xs)) n
    ∙ ap (λ (k : ℕ). replicate k n) (sym (length-append (held a) (all_of held xs)))
