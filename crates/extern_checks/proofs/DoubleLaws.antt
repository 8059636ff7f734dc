-- Laws of refusal 2, as the code goes through the rows. Assumes nothing.
use mathlib.Core.Path.{◌≡◌, refl, sym, ap, ◌∙◌}
use mathlib.Core.Bool.{Bool, true, false, not}
use mathlib.Core.List.{List, [], ◌∷◌}
use Prim.Native.Nat.{ℕ, suc, ◌+◌, ◌-◌, ◌≤◌, ◌<◌}
use native.Mathlib.Omega.{arith}
use native.Mathlib.Numerals.{add-one}
use lib.Dec.{eqb}
use lib.ListN.{length, take, drop, get_or, length-drop}
use lib.Seq.{drop-cons}
use Rattle.base.specs.Choose.{choose}
use Rattle.base.specs.Bytes.{same}
use Rattle.options.specs.Settings.{Setting}
use Rattle.std.specs.Str.{bytes_eq}
use Rattle.std.specs.List.{list_any}
use Rattle.path.specs.Forms.{among}
use Rattle.split.specs.Split.{begins, split_behind, split}
use Rattle.extern_paths.specs.ExternPaths.{extern, prost_types}
use Rattle.extern_paths.specs.Seen.{paths_of}
use Rattle.extern_paths.specs.declared.prost_types.ProstType.{ProstType}
use Rattle.base.specs.Lists.{any}
use Rattle.extern_checks.specs.Doubles.{has_gap, valid_path, prost_type_paths, lists, doubled, at_fault, externs_from, externs}
use Rattle.base.specs.declared.refusal.Refusal.TheVariants.{ExternPath}
use Rattle.base.proofs.BytesLaws.{same_bytes, same_turned}
use Rattle.std.specs.Prelude.{Ok, Err}
use Rattle.std.proofs.Math.Bool.{or-false}
use Rattle.base.specs.Tests.{by_test}

-- ---- the paths of prost types
pub any_types : (x : List ℕ) (types : List ProstType) → list_any (λ (t : ProstType). bytes_eq x t.path.now) types ≡ among x (paths_of types)
unfolding among
any_types x [] = refl
any_types x (t ∷ types) = rw (any_types x types, same_bytes x t.path.now) refl

-- they are valid
prost_valid : any (λ (x : List ℕ). not (valid_path x)) prost_type_paths ≡ false
unfolding any prost_type_paths prost_types valid_path has_gap split split_behind begins choose
prost_valid = refl

prost_twice : any (λ (x : List ℕ). among x prost_type_paths) prost_type_paths ≡ true
unfolding any prost_type_paths prost_types among same
prost_twice = refl

prost_alone : any (λ (x : List ℕ). among x []) prost_type_paths ≡ false
unfolding any prost_type_paths prost_types among
prost_alone = refl

some_one : (y : List ℕ) (xs : List (List ℕ)) → any (λ (x : List ℕ). among x (y ∷ [])) xs ≡ among y xs
unfolding any among
some_one y [] = refl
some_one y (x ∷ xs) = rw (or-false (same x y), same_turned x y, some_one y xs) refl

-- ---- what a row lists
module _ (r : Setting) where
  module _ (h : eqb r.kind 1 ≡ true) where
    one_path : lists r ≡ r.path ∷ []
    unfolding lists choose
    one_path = rw h refl

    pub invalid_one : any (λ (x : List ℕ). not (valid_path x)) (lists r) ≡ not (valid_path r.path)
    unfolding any
    invalid_one = rw one_path (or-false (not (valid_path r.path)))

    pub lists_one : (x : List ℕ) → among x (lists r) ≡ bytes_eq x r.path
    unfolding among
    lists_one x = rw (one_path, same_bytes x r.path) (or-false (same x r.path))

    pub prost_one : any (λ (x : List ℕ). among x (lists r)) prost_type_paths ≡ among r.path prost_type_paths
    prost_one = rw one_path (some_one r.path prost_type_paths)

    pub doubled_one : (q : Setting) → doubled r q ≡ among r.path (lists q)
    unfolding doubled any
    doubled_one q = rw one_path (or-false (among r.path (lists q)))

  module _ (n : eqb r.kind 1 ≡ false) where
    other : lists r ≡ choose (eqb r.kind 12) prost_type_paths []
    unfolding lists choose
    other = rw n refl

    pub invalid_none : any (λ (x : List ℕ). not (valid_path x)) (lists r) ≡ false
    unfolding choose any
    invalid_none = rw other (by_test (λ (t : Bool). any (λ (x : List ℕ). not (valid_path x)) (choose t prost_type_paths []) ≡ false) (eqb r.kind 12) (λ _. prost_valid) (λ _. refl))

    pub prost_is : any (λ (x : List ℕ). among x (lists r)) prost_type_paths ≡ eqb r.kind 12
    unfolding choose
    prost_is = rw other (by_test (λ (t : Bool). any (λ (x : List ℕ). among x (choose t prost_type_paths [])) prost_type_paths ≡ t) (eqb r.kind 12) (λ _. prost_twice) (λ _. prost_alone))

    pub lists_prost : (x : List ℕ) → eqb r.kind 12 ≡ true → among x (lists r) ≡ among x prost_type_paths
    unfolding choose
    lists_prost x h = rw (other, h) refl

    pub lists_none : (x : List ℕ) → eqb r.kind 12 ≡ false → among x (lists r) ≡ false
    unfolding choose among
    lists_none x h = rw (other, h) refl

    pub doubled_prost : (q : Setting) → eqb r.kind 12 ≡ true → doubled r q ≡ any (λ (x : List ℕ). among x (lists q)) prost_type_paths
    unfolding choose doubled
    doubled_prost q h = rw (other, h) refl

    pub doubled_none : (q : Setting) → eqb r.kind 12 ≡ false → doubled r q ≡ false
    unfolding choose doubled any
    doubled_none q h = rw (other, h) refl

pub ruleset invalids = (invalid_one, invalid_none)

pub ruleset listed = (lists_one, lists_prost, lists_none)

pub ruleset doubles = (doubled_one, doubled_prost, doubled_none)

-- ---- the rows in turn
pub externs_end : (rs : List Setting) (i : ℕ) → length rs ≤ i → externs_from rs (length rs - i) i ≡ Ok tt
unfolding externs_from
externs_end rs i h = let l : length rs - i ≡ 0 = omega arith in rw l refl

-- the rows from row i on begin with r
module _ (rs : List Setting) (i : ℕ) (r : Setting) (others : List Setting) (e : r ∷ others ≡ drop i rs) where
  inside : i < length rs
  inside = let k : length rs - i ≡ suc (length others) = sym (length-drop i rs) ∙ ap length (sym e) in omega arith

  parts : get_or rs i (extern [] []) ∷ drop (suc i) rs ≡ r ∷ others
  parts = sym (drop-cons rs i (extern [] []) inside) ∙ sym e

  pub others_are : others ≡ drop (i + 1) rs
  others_are = rw add-one (tail parts)
    where
      tail : {x y : Setting} {xs ys : List Setting} → x ∷ xs ≡ y ∷ ys → ys ≡ xs
      tail p = cc

  here : get_or rs i (extern [] []) ≡ r
  here = head parts
    where
      head : {x y : Setting} {xs ys : List Setting} → x ∷ xs ≡ y ∷ ys → x ≡ y
      head p = cc

  pub externs_bad : at_fault (take i rs) r ≡ true → externs_from rs (length rs - i) i ≡ Err (ExternPath i)
  unfolding externs_from choose
  externs_bad t = let h = inside in let l : length rs - i ≡ suc (length rs - (i + 1)) = omega arith in rw (l, here, t) refl

  pub externs_more : at_fault (take i rs) r ≡ false → externs_from rs (length rs - (i + 1)) (i + 1) ≡ externs_from rs (length rs - i) i
  unfolding externs_from choose
  externs_more t = let h = inside in let l : length rs - i ≡ suc (length rs - (i + 1)) = omega arith in rw (l, here, t) refl

pub externs_all : (rs : List Setting) → externs_from rs (length rs - 0) 0 ≡ externs rs
unfolding externs
externs_all rs = let l : length rs - 0 ≡ length rs = omega arith in rw l refl
