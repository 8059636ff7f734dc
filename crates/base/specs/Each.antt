-- Lists of numbers, element by element: a text for each, and what holds of all. Assumes nothing.
use Rattle.std.specs.Prelude.{◌≡◌, refl, List, [], ◌∷◌, ◌++◌, ℕ}
use Rattle.std.proofs.Common.{ap, ◌∙◌, append_assoc, append-nil}

-- the texts of all elements, one after the other
abbrev pub each : (ℕ → List ℕ) → List ℕ → List ℕ
each f [] = []
each f (x ∷ xs) = f x ++ each f xs

abbrev pub All : (ℕ → Type 0) → List ℕ → Type 0
All P [] = Unit
All P (x ∷ xs) = P x × All P xs

pub each_append : (f : ℕ → List ℕ) (xs ys : List ℕ) → each f (xs ++ ys) ≡ each f xs ++ each f ys
each_append f [] ys = refl
each_append f (x ∷ xs) ys = rw (each_append f xs ys, append_assoc)

pub each_one : (f : ℕ → List ℕ) (x : ℕ) → each f (x ∷ []) ≡ f x
each_one f x = append-nil (f x)

pub all_append : (P : ℕ → Type 0) (xs ys : List ℕ) → All P xs → All P ys → All P (xs ++ ys)
all_append P [] ys p q = q
all_append P (x ∷ xs) ys p q = (p.0, all_append P xs ys p.1 q)

-- what holds of each element's text, where a fact holds of the element, holds of the whole
pub all_each : (P Q : ℕ → Type 0) (f : ℕ → List ℕ) → ((x : ℕ) → Q x → All P (f x)) → (xs : List ℕ) → All Q xs → All P (each f xs)
all_each P Q f h [] q = tt
all_each P Q f h (x ∷ xs) q = all_append P (f x) (each f xs) (h x q.0) (all_each P Q f h xs q.1)

-- a text for each, and a text for each element of that
pub each_each : (f g : ℕ → List ℕ) (xs : List ℕ) → each f (each g xs) ≡ each (λ x. each f (g x)) xs
each_each f g [] = refl
each_each f g (x ∷ xs) = each_append f (g x) (each g xs) ∙ ap (λ (l : List ℕ). each f (g x) ++ l) (each_each f g xs)
