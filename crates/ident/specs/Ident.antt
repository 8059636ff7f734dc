-- ident.rs: what is written for a name.
use Rattle.std.specs.Prelude.{Bool, true, false, ◌||◌, List, [], ◌∷◌, ◌++◌, ℕ, eqb, get_or}
use Rattle.std.proofs.Math.Option.{Option, some, none}
use Rattle.base.specs.Choose.{choose}
use Rattle.base.specs.Bytes.{b, same}
use Rattle.heck.specs.Case.{is_digit, is_upper, to_snake_case, to_upper_camel_case}
use Rattle.ident.specs.declared.keywords.Addition.{Addition}
use Rattle.ident.specs.declared.keywords.Addition.TheVariants.{Nothing, Raw, Trailing, Leading}

unfoldable pub among : List ℕ → List (List ℕ) → Bool
among x [] = false
among x (w ∷ ws) = same x w || among x ws

-- the words that gain `r#`, in the source's order
unfoldable pub raw_words : List (List ℕ)
raw_words =
    b "as" ∷ b "break" ∷ b "const" ∷ b "continue" ∷ b "else" ∷ b "enum" ∷ b "false" ∷ b "fn" ∷ b "for" ∷ b "if" ∷ b "impl"
    ∷ b "in" ∷ b "let" ∷ b "loop" ∷ b "match" ∷ b "mod" ∷ b "move" ∷ b "mut" ∷ b "pub" ∷ b "ref" ∷ b "return" ∷ b "static"
    ∷ b "struct" ∷ b "trait" ∷ b "true" ∷ b "type" ∷ b "unsafe" ∷ b "use" ∷ b "where" ∷ b "while" ∷ b "dyn" ∷ b "abstract"
    ∷ b "become" ∷ b "box" ∷ b "do" ∷ b "final" ∷ b "macro" ∷ b "override" ∷ b "priv" ∷ b "typeof" ∷ b "unsized"
    ∷ b "virtual" ∷ b "yield" ∷ b "async" ∷ b "await" ∷ b "try" ∷ b "gen" ∷ []

-- the words that gain a trailing `_`
unfoldable pub kept_words : List (List ℕ)
kept_words = b "_" ∷ b "super" ∷ b "self" ∷ b "Self" ∷ b "extern" ∷ b "crate" ∷ []

-- what sanitising adds to a name, and the name with it
unfoldable pub addition : List ℕ → Addition
addition x = choose (among x raw_words) Raw (choose (among x kept_words) Trailing (choose (is_digit (get_or x 0 0)) Leading Nothing))

abbrev pub is_trailing : Addition → Bool
is_trailing Nothing = false
is_trailing Raw = false
is_trailing Trailing = true
is_trailing Leading = false

unfoldable pub with_addition : Addition → List ℕ → List ℕ
with_addition Nothing x = x
with_addition Raw x = b "r#" ++ x
with_addition Trailing x = x ++ b "_"
with_addition Leading x = b "_" ++ x

unfoldable pub sanitize_identifier : List ℕ → List ℕ
sanitize_identifier x = with_addition (addition x) x

unfoldable pub to_snake : List ℕ → List ℕ
to_snake s = sanitize_identifier (to_snake_case s)

unfoldable pub to_upper_camel : List ℕ → List ℕ
to_upper_camel s = sanitize_identifier (to_upper_camel_case s)

-- what stands behind a prefix
unfoldable pub strip_prefix : List ℕ → List ℕ → Option (List ℕ)
strip_prefix [] s = some s
strip_prefix (p ∷ ps) [] = none
strip_prefix (p ∷ ps) (c ∷ s) = choose (eqb p c) (strip_prefix ps s) none

-- that, if an uppercase letter stands first in it, and else the whole name
unfoldable pub true_prefix : Option (List ℕ) → List ℕ → List ℕ
true_prefix none name = name
true_prefix (some rest) name = choose (is_upper (get_or rest 0 0)) rest name

unfoldable pub strip_enum_prefix : List ℕ → List ℕ → List ℕ
strip_enum_prefix prefix name = sanitize_identifier (true_prefix (strip_prefix prefix name) name)
