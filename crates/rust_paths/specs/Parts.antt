-- A path's segments as they are written, part by part, as the code goes through them. Assumes nothing.
use Rattle.std.specs.Prelude.{Bool, true, false, ◌||◌, List, [], ◌∷◌, ◌++◌, map, ℕ, suc, eqb}
use Rattle.base.specs.Choose.{choose}
use Rattle.base.specs.Lists.{is_empty}
use Rattle.base.specs.Bytes.{b}
use Rattle.split.specs.Split.{begins, split}
use Rattle.rust_paths.specs.Segments.{Segment, snake, written, rust_path, behind_prefix, extern_text}

-- texts that each stand behind a `::`
unfoldable pub led : List (List ℕ) → List ℕ
led [] = []
led (x ∷ xs) = b "::" ++ (x ++ led xs)

-- segments behind the first: with `camel` the last is the type
abbrev pub segments : Bool → List (List ℕ) → List Segment
segments true xs = behind_prefix xs
segments false xs = map snake xs

unfoldable pub led_parts : Bool → List ℕ → List ℕ → List ℕ
led_parts camel sep s = led (map written (segments camel (split sep s)))

-- a Rust path, its segments in snake case
unfoldable pub path_text : List ℕ → List ℕ
path_text s = extern_text (rust_path (split (b "::") s))

-- how much of p stands before the last separator, where a `::` follows p
unfoldable pub cut : List ℕ → ℕ
cut [] = 0
cut (c ∷ []) = choose (eqb c 58) 0 1
cut (c ∷ (d ∷ s)) = choose (begins (b "::") (c ∷ (d ∷ s))) (suc (suc (cut s))) (suc (cut (d ∷ s)))

-- is q empty, or a `::` first in it?
unfoldable pub is_tail : List ℕ → Bool
is_tail q = is_empty q || begins (b "::") q
