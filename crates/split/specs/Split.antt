-- Rust's `split`: the parts of a text between the places where a separator stands.
use Rattle.std.specs.Prelude.{Bool, true, false, ◌&&◌, List, [], ◌∷◌, ℕ, zero, suc, ◌-◌, eqb, length, Option, Some, None}
use Rattle.base.specs.Bytes.{b}
use Rattle.base.specs.Choose.{choose}
use Rattle.split.specs.declared.Separator.{Separator}
use Rattle.split.specs.declared.Separator.TheVariants.{Dot, Colons, Blank}

abbrev pub separator_bytes : Separator → List ℕ
separator_bytes Dot = b "."
separator_bytes Colons = b "::"
separator_bytes Blank = b " "

-- does s begin with the separator?
unfoldable pub begins : List ℕ → List ℕ → Bool
begins [] s = true
begins (x ∷ sep) [] = false
begins (x ∷ sep) (c ∷ s) = eqb c x && begins sep s

-- c put in front of the first part
abbrev pub push : ℕ → List (List ℕ) → List (List ℕ)
push c [] = (c ∷ []) ∷ []
push c (x ∷ xs) = (c ∷ x) ∷ xs

-- the first n bytes of s belong to a separator that was met
unfoldable pub split_behind : List ℕ → ℕ → List ℕ → List (List ℕ)
split_behind sep n [] = [] ∷ []
split_behind sep (suc n) (c ∷ s) = split_behind sep n s
split_behind sep zero (c ∷ s) = choose (begins sep (c ∷ s)) ([] ∷ split_behind sep (length sep - 1) s) (push c (split_behind sep zero s))

unfoldable pub split : List ℕ → List ℕ → List (List ℕ)
split sep s = split_behind sep zero s

-- the length of the first part
unfoldable pub first_part : List ℕ → List ℕ → ℕ
first_part sep [] = 0
first_part sep (c ∷ s) = choose (begins sep (c ∷ s)) 0 (suc (first_part sep s))

-- the parts of what is left, if anything is
abbrev pub parts_left : List ℕ → Option (List ℕ) → List (List ℕ)
parts_left sep None = []
parts_left sep (Some s) = split sep s
