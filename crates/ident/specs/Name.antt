-- What a name of the set is: `[A-Za-z_][A-Za-z0-9_]*`.
use Rattle.std.specs.Prelude.{Bool, true, false, ◌&&◌, ◌||◌, List, [], ◌∷◌, ℕ, eqb}
use Rattle.base.specs.Choose.{choose}
use Rattle.heck.specs.Case.{class, in_word, is_lower, is_upper, is_digit}

unfoldable pub name_start : ℕ → Bool
name_start c = is_upper c || (is_lower c || eqb c 95)

unfoldable pub name_part : ℕ → Bool
name_part c = is_digit c || name_start c

unfoldable pub every : (ℕ → Bool) → List ℕ → Bool
every p [] = true
every p (c ∷ s) = choose (p c) (every p s) false

unfoldable pub is_name : List ℕ → Bool
is_name [] = false
is_name (c ∷ s) = name_start c && every name_part s

-- a letter or digit is among them
unfoldable pub has_word : List ℕ → Bool
has_word [] = false
has_word (c ∷ s) = choose (in_word (class c)) true (has_word s)
