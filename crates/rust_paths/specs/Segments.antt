-- The segments of a path in Rust. Assumes nothing.
use Rattle.std.specs.Prelude.{List, [], ◌∷◌, map, ℕ}
use Rattle.base.specs.Choose.{choose}
use Rattle.base.specs.Bytes.{b, same}
use Rattle.heck.specs.Case.{join}
use Rattle.ident.specs.Ident.{to_snake, to_upper_camel}

-- a segment: as it is, in snake case, in camel case
pub data Segment : Type 0 where
  plain snake camel : List ℕ → Segment

abbrev pub written : Segment → List ℕ
written (plain x) = x
written (snake x) = to_snake x
written (camel x) = to_upper_camel x

-- `crate` in first place isn't converted
unfoldable pub first_segment : List ℕ → Segment
first_segment x = choose (same x (b "crate")) (plain x) (snake x)

abbrev pub rust_path : List (List ℕ) → List Segment
rust_path [] = []
rust_path (x ∷ xs) = first_segment x ∷ map snake xs

-- protobuf segments behind a prefix: the last is the type
abbrev pub behind_prefix : List (List ℕ) → List Segment
behind_prefix [] = []
behind_prefix (x ∷ []) = camel x ∷ []
behind_prefix (x ∷ (y ∷ xs)) = snake x ∷ behind_prefix (y ∷ xs)

-- as bytes
unfoldable pub extern_text : List Segment → List ℕ
extern_text xs = join (b "::") (map written xs)
