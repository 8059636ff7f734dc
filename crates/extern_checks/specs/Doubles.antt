-- Refusal 2: an extern path that is invalid, or doubled, also against prost types.
use Rattle.std.specs.Prelude.{Bool, true, false, ◌||◌, ◌&&◌, not, List, [], ◌∷◌, map, ℕ, zero, suc, ◌+◌, eqb, length, take, drop, get_or, Result, Ok, Err}
use Rattle.base.specs.Choose.{choose}
use Rattle.base.specs.Lists.{any, is_empty}
use Rattle.base.specs.Bytes.{b}
use Rattle.base.specs.declared.refusal.Refusal.{Refusal}
use Rattle.base.specs.declared.refusal.Refusal.TheVariants.{ExternPath}
use Rattle.options.specs.Settings.{Setting}
use Rattle.path.specs.Forms.{among}
use Rattle.split.specs.Split.{split}
use Rattle.extern_paths.specs.ExternPaths.{extern, prost_types}

-- has the path an empty segment behind a `.`?
unfoldable pub has_gap : List ℕ → Bool
has_gap path = any is_empty (drop 1 (split (b ".") path))

-- ---- the same, byte by byte
-- does s stand at a `.`, or at its end?
abbrev pub at_gap : List ℕ → Bool
at_gap [] = true
at_gap (c ∷ s) = eqb c 46

-- does s begin with a `.` that no name follows?
unfoldable pub opens_gap : List ℕ → Bool
opens_gap [] = false
opens_gap (c ∷ s) = eqb c 46 && at_gap s

-- validate_proto_path
unfoldable pub valid_path : List ℕ → Bool
valid_path path = eqb (get_or path 0 0) 46 && not (has_gap path)

-- the eleven paths of prost types
unfoldable pub prost_type_paths : List (List ℕ)
prost_type_paths = map (λ (e : Setting). e.path) (prost_types [] [])

-- the extern paths that a row lists
unfoldable pub lists : Setting → List (List ℕ)
lists r = choose (eqb r.kind 1) (r.path ∷ []) (choose (eqb r.kind 12) prost_type_paths [])

-- have two rows a path in common?
unfoldable pub doubled : Setting → Setting → Bool
doubled r q = any (λ x. among x (lists q)) (lists r)

-- a row is at fault for an invalid path, or for a path that a row before it has
unfoldable pub at_fault : List Setting → Setting → Bool
at_fault before r = any (λ x. not (valid_path x)) (lists r) || any (doubled r) before

-- the lowest row at fault, of k rows from row i on
unfoldable pub externs_from : List Setting → ℕ → ℕ → Result Unit Refusal
externs_from rs zero i = Ok tt
externs_from rs (suc k) i = choose (at_fault (take i rs) (get_or rs i (extern [] []))) (Err (ExternPath i)) (externs_from rs k (i + 1))

unfoldable pub externs : List Setting → Result Unit Refusal
externs rs = externs_from rs (length rs) 0
