-- path.rs: the forms of a path, best first.
use Rattle.std.specs.Prelude.{◌≡◌, refl, Bool, false, ◌||◌, List, [], ◌∷◌, ◌++◌, map, ℕ, eqb}
use Rattle.base.specs.Choose.{choose}
use Rattle.base.specs.Bytes.{b, same}

-- what stands behind each `.`, from the first `.` on
unfoldable pub behind_dots : List ℕ → List (List ℕ)
behind_dots [] = []
behind_dots (c ∷ s) = choose (eqb c 46) (s ∷ behind_dots s) (behind_dots s)

-- what stands before each `.`, from the last `.` on
unfoldable pub before_dots : List ℕ → List (List ℕ)
before_dots [] = []
before_dots (c ∷ s) = map (λ x. c ∷ x) (before_dots s) ++ choose (eqb c 46) ([] ∷ []) []

-- those that aren't empty
unfoldable pub filled : List (List ℕ) → List (List ℕ)
filled [] = []
filled ([] ∷ xs) = filled xs
filled ((c ∷ x) ∷ xs) = (c ∷ x) ∷ filled xs

-- `split_once('.')`, again and again
unfoldable pub suffixes : List ℕ → List (List ℕ)
suffixes path = filled (behind_dots path)

-- `rsplit_once('.')`, again and again
unfoldable pub prefixes : List ℕ → List (List ℕ)
prefixes path = filled (before_dots path)

-- document 01's "forms of a path", best first: itself, suffixes, prefixes, `.`
unfoldable pub sub_path_iter : List ℕ → List (List ℕ)
sub_path_iter path = path ∷ (suffixes path ++ (prefixes path ++ (b "." ∷ [])))

-- is x one of the forms?
unfoldable pub among : List ℕ → List (List ℕ) → Bool
among x [] = false
among x (f ∷ fs) = same x f || among x fs

-- document 01's example
pub forms_of_M_o_f : sub_path_iter (b ".M.o.f") ≡ b ".M.o.f" ∷ b "M.o.f" ∷ b "o.f" ∷ b "f" ∷ b ".M.o" ∷ b ".M" ∷ b "." ∷ []
unfolding sub_path_iter suffixes prefixes filled before_dots behind_dots choose
forms_of_M_o_f = refl
