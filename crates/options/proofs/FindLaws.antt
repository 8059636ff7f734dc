-- What the definitions find among the rows is what the library's words find.
use Rattle.std.proofs.Common.{◌≡◌, refl, ap, ℕ, ◌+◌, Bool, true, false, not, List, [], ◌∷◌, Option, Some, None, if◌then◌else◌, ◌||◌}
use Rattle.std.proofs.Math.Option.{some}
use Rattle.std.proofs.Math.Option as math
use Rattle.std.specs.List.{list_any, find}
use Rattle.base.specs.Choose.{choose}
use Rattle.base.specs.Bytes.{b}
use Rattle.options.specs.Rows.{is_of}
use Rattle.options.specs.Found.{Found}
use Rattle.options.specs.Settings.{Setting, found_at, first_of_kind, value_of, or_else, prost_path, strips_prefix}

pub found_any : (kind i : ℕ) (rs : List Setting) → (first_of_kind kind i rs).found ≡ list_any (is_of kind) rs
unfolding first_of_kind choose
found_any kind i [] = refl
found_any kind i (r ∷ rs) = go (is_of kind r) _ _ (found_any kind (i + 1) rs)
  where
    go : (t : Bool) (f : Found) (u : Bool) → f.found ≡ u → (choose t (found_at i) f).found ≡ (t || u)
    go true f u e = refl
    go false f u e = e

pub strips_any : (rs : List Setting) → strips_prefix rs ≡ not (list_any (is_of 11) rs)
unfolding strips_prefix
strips_any rs = ap not (found_any 11 0 rs)

abbrev pub value_or : Option Setting → List ℕ → List ℕ
value_or None x = x
value_or (Some r) x = r.value

found_value : (kind : ℕ) (rs : List Setting) (x : List ℕ) → or_else (value_of kind rs) x ≡ value_or (find (is_of kind) rs) x
unfolding value_of choose
found_value kind [] x = refl
found_value kind (r ∷ rs) x = go (is_of kind r) _ _ (found_value kind rs x)
  where
    go : (t : Bool) (o : math.Option (List ℕ)) (q : Option Setting) → or_else o x ≡ value_or q x → or_else (choose t (some r.value) o) x ≡ value_or (if t then Some r else q) x
    go true o q e = refl
    go false o q e = e

pub prost_path_found : (rs : List Setting) → prost_path rs ≡ value_or (find (is_of 10) rs) (b "::prost")
unfolding prost_path
prost_path_found rs = found_value 10 rs (b "::prost")

pub ruleset finds = (strips_any, prost_path_found)
