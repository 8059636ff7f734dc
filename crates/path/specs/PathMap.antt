-- path.rs: the rows of a kind that a path finds.
use Rattle.std.specs.Prelude.{◌&&◌, List, [], ◌∷◌, ℕ, ◌+◌, eqb, Option, Some, None, if◌then◌else◌}
use Rattle.base.specs.Choose.{choose}
use Rattle.base.specs.Bytes.{same}
use Rattle.options.specs.Settings.{Setting, found_at, not_found}
use Rattle.options.specs.Found.{Found}
use Rattle.path.specs.Forms.{sub_path_iter, among}

-- Iter: the values of all rows of a kind whose path is one of the forms, in list order
unfoldable pub get_in : ℕ → List (List ℕ) → List Setting → List (List ℕ)
get_in kind forms [] = []
get_in kind forms (r ∷ rs) = choose (eqb r.kind kind && among r.path forms) (r.value ∷ get_in kind forms rs) (get_in kind forms rs)

-- PathMap::get (PathMap::get_field, where the path ends in the field's name)
abbrev pub get : ℕ → List ℕ → List Setting → List (List ℕ)
get kind path rs = get_in kind (sub_path_iter path) rs

-- the first row of a kind with the path `form`, the rows being numbered from i on
unfoldable pub first_with : ℕ → List ℕ → ℕ → List Setting → Found
first_with kind form i [] = not_found
first_with kind form i (r ∷ rs) = choose (eqb r.kind kind && same r.path form) (found_at i) (first_with kind form (i + 1) rs)

-- find_best_matching: the first form that a row has, and the first row that has it
unfoldable pub find_best : ℕ → List (List ℕ) → ℕ → List Setting → Found
find_best kind [] i rs = not_found
find_best kind (f ∷ fs) i rs = choose (first_with kind f i rs).found (first_with kind f i rs) (find_best kind fs i rs)

-- PathMap::get_first
abbrev pub get_first : ℕ → List ℕ → List Setting → Found
get_first kind path rs = find_best kind (sub_path_iter path) 0 rs

-- a row that was found, by its number
abbrev pub number_of : Found → Option ℕ
number_of f = if f.found then Some f.number else None
