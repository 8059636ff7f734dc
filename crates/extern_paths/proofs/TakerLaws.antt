-- Which extern path takes a name, as the code searches: the rows, then the words of prost types. Assumes nothing.
use mathlib.Core.Path.{◌≡◌, refl, sym, ap, ◌∙◌}
use mathlib.Core.Bool.{Bool, true, false, not, ◌||◌}
use mathlib.Core.List.{List, [], ◌∷◌, ◌++◌, append-nil}
use Prim.Native.Nat.{ℕ, zero, suc, ◌+◌, ◌-◌, ◌^◌, ◌≤◌, ◌<◌}
use native.Mathlib.Omega.{arith}
use native.Mathlib.Nat.{zero-add}
use lib.Dec.{eqb, ltb}
use lib.ListN.{length, get_or, get_or-append}
use lib.Seq.{get_or-append-add}
use borrow.Author.Tests.{eq-eqb, ne_eqb}
use Rattle.base.specs.Choose.{choose, choose_case}
use Rattle.base.specs.Bytes.{same}
use Rattle.options.specs.Settings.{Setting, value_of, prost_path}
use Rattle.options.specs.Rows.{is_of}
use Rattle.std.proofs.Common.{Option, Some, None, is_some, if◌then◌else◌}
use Rattle.base.specs.Tests.{both_ways}
use Rattle.std.specs.List.{find, list_any, slice_get}
use Rattle.std.proofs.Math.Option as Math
use Rattle.std.proofs.Math.Option.{some, none}
use Rattle.options.specs.Found.{Found}
use Rattle.path.specs.PathMap.{find_best}
use Rattle.path.specs.Worth.{Form, weighed, worth_in, worth_of, improve, best_of, none_yet, found_of}
use Rattle.path.specs.declared.Best.{Best}
use Rattle.path.proofs.BestLaws.{found_best, weighed_below, few_forms}
use Rattle.split.specs.Split.{begins, split_behind, split}
use Rattle.extern_paths.specs.ExternPaths.{extern, prost_types, if_given, extern_paths, taker, taken, resolve_by, resolve_ident}
use Rattle.extern_paths.specs.ProstTypes.{best_word, prost_type, path_words, value_words}

-- ---- the table of prost types
-- the extern paths of two lists of words
abbrev zipped : List ℕ → List ℕ → List (List ℕ) → List (List ℕ) → List Setting
zipped p v [] ys = []
zipped p v (x ∷ xs) [] = []
zipped p v (x ∷ xs) (y ∷ ys) = prost_type p v x y ∷ zipped p v xs ys

table : (p v : List ℕ) → prost_types p v ≡ zipped p v path_words value_words
unfolding prost_types prost_type path_words value_words split split_behind begins same choose
table p v = refl

words : length path_words ≡ length value_words
unfolding path_words value_words split split_behind begins choose
words = refl

best_zipped : (p v : List ℕ) (fs : List Form) (m : Best) (i : ℕ) (xs ys : List (List ℕ)) → length xs ≡ length ys → best_of fs 1 m i (zipped p v xs ys) ≡ best_word fs m i xs
unfolding best_of best_word worth_of prost_type choose
best_zipped p v fs m i [] ys e = refl
best_zipped p v fs m i (x ∷ xs) [] e = absurd (omega arith)
best_zipped p v fs m i (x ∷ xs) (y ∷ ys) e = best_zipped p v fs (improve m i (worth_in fs x)) (i + 1) xs ys (omega arith)

-- ---- the rows, then prost types
best_append : (fs : List Form) (kind : ℕ) (m : Best) (i : ℕ) (rs qs : List Setting) → best_of fs kind m i (rs ++ qs) ≡ best_of fs kind (best_of fs kind m i rs) (i + length rs) qs
unfolding best_of
best_append fs kind m i [] qs = let e : i + 0 ≡ i = omega arith in rw e refl
best_append fs kind m i (r ∷ rs) qs = let e : i + suc (length rs) ≡ i + 1 + length rs = omega arith in rw e (best_append fs kind (improve m i (worth_of fs kind r)) (i + 1) rs qs)

-- the best lies among those that were looked at
abbrev Among : ℕ → Best → Type 0
Among n m = (m.worth ≡ 0 → ⊥) → m.number < n

improve_among : (m : Best) (i w : ℕ) → Among i m → Among (i + 1) (improve m i w)
unfolding improve
improve_among m i w h = choose_case (Among (i + 1)) (ltb m.worth w) (λ _. λ _. omega arith) (λ _. λ q. let l : m.number < i = h q in omega arith)

best_among : (fs : List Form) (kind : ℕ) (m : Best) (i : ℕ) (rs : List Setting) → Among i m → Among (i + length rs) (best_of fs kind m i rs)
unfolding best_of
best_among fs kind m i [] h = let e : i + 0 ≡ i = omega arith in rw e h
best_among fs kind m i (r ∷ rs) h = let e : i + suc (length rs) ≡ i + 1 + length rs = omega arith in rw e (best_among fs kind (improve m i (worth_of fs kind r)) (i + 1) rs (improve_among m i (worth_of fs kind r) h))

-- ---- with a row of kind 12, prost types are extern paths too
abbrev own_path : Option Setting → Math.Option (List ℕ)
own_path None = none
own_path (Some r) = some r.value

own_found : (kind : ℕ) (rs : List Setting) → value_of kind rs ≡ own_path (find (is_of kind) rs)
unfolding value_of choose
own_found kind [] = refl
own_found kind (r ∷ rs) = go (is_of kind r) _ _ (own_found kind rs)
  where
    go : (t : Bool) (o : Math.Option (List ℕ)) (q : Option Setting) → o ≡ own_path q → choose t (some r.value) o ≡ own_path (if t then Some r else q)
    go true o q e = refl
    go false o q e = e

any_found : (p : Setting → Bool) (rs : List Setting) → list_any p rs ≡ is_some (find p rs)
any_found p [] = refl
any_found p (r ∷ rs) = go (p r) _ _ (any_found p rs)
  where
    go : (t u : Bool) (o : Option Setting) → u ≡ is_some o → (t || u) ≡ is_some (if t then Some r else o)
    go true u o e = refl
    go false u o e = e

module _ (rs : List Setting) where
  without : find (is_of 12) rs ≡ None → extern_paths rs ≡ rs
  unfolding extern_paths
  without e = rw (own_found 12 rs, e, append-nil) refl

  with_types : (r : Setting) → find (is_of 12) rs ≡ Some r → extern_paths rs ≡ rs ++ prost_types (prost_path rs) r.value
  unfolding extern_paths
  with_types r e = rw (own_found 12 rs, e) refl

  pub best_rows : (fs : List Form) → list_any (is_of 12) rs ≡ false → best_of fs 1 none_yet 0 (extern_paths rs) ≡ best_of fs 1 none_yet 0 rs
  best_rows fs h = on (find (is_of 12) rs) refl
    where
      on : (o : Option Setting) → find (is_of 12) rs ≡ o → best_of fs 1 none_yet 0 (extern_paths rs) ≡ best_of fs 1 none_yet 0 rs
      on None e = rw (without e) refl
      on (Some r) e = both_ways (any_found (is_of 12) rs ∙ ap is_some e) h

  pub best_all : (fs : List Form) → list_any (is_of 12) rs ≡ true → best_of fs 1 none_yet 0 (extern_paths rs) ≡ best_word fs (best_of fs 1 none_yet 0 rs) (length rs) path_words
  best_all fs h = on (find (is_of 12) rs) refl
    where
      on : (o : Option Setting) → find (is_of 12) rs ≡ o → best_of fs 1 none_yet 0 (extern_paths rs) ≡ best_word fs (best_of fs 1 none_yet 0 rs) (length rs) path_words
      on None e = both_ways h (any_found (is_of 12) rs ∙ ap is_some e)
      on (Some r) e =
          let prost = prost_path rs in
          rw (with_types r e, table prost r.value, best_append fs 1 none_yet 0 rs (zipped prost r.value path_words value_words), best_zipped prost r.value fs (best_of fs 1 none_yet 0 rs) (0 + length rs) path_words value_words words, zero-add) refl

-- the paths of the table, as the code goes through them
pub best_types : (fs : List Form) (m old : Best) (n : ℕ) (rs : List Setting) (paths : List (List ℕ)) → m ≡ best_word fs old n paths → old ≡ best_of fs 1 none_yet 0 rs → n ≡ length rs → paths ≡ path_words → m ≡ best_word fs (best_of fs 1 none_yet 0 rs) (length rs) path_words
best_types fs m old n rs paths e f k t = e ∙ rw (t, f, k) refl

-- ---- what the search finds
module _ (rs : List Setting) (ident : List ℕ) (l : length ident < 2 ^ 63) (m : Best) (e : m ≡ best_of (weighed false ident) 1 none_yet 0 (extern_paths rs)) where
  taker_is : taker rs ident ≡ found_of m
  taker_is = rw e (sym (found_best (2 ^ 64) (weighed false ident) 1 0 (extern_paths rs) (weighed_below false ident l) ∙ ap (λ (fs : List (List ℕ)). find_best 1 fs 0 (extern_paths rs)) (few_forms ident)))

  pub taken_is : not (eqb m.worth 0) ≡ taken rs ident
  unfolding taken
  taken_is = ap (λ (w : Found). w.found) (sym taker_is)

  pub takes_not : m.worth ≡ 0 → taken rs ident ≡ false
  takes_not z = rw (← taken_is, eq-eqb m.worth 0 z) refl

  pub takes_it : (m.worth ≡ 0 → ⊥) → taken rs ident ≡ true
  takes_it z = rw (← taken_is, ne_eqb m.worth 0 z) refl

  pub resolves_not : m.worth ≡ 0 → resolve_ident rs ident ≡ []
  unfolding resolve_ident choose
  resolves_not z = rw (← taken_is, eq-eqb m.worth 0 z) refl

  pub resolves : (m.worth ≡ 0 → ⊥) → resolve_ident rs ident ≡ resolve_by (get_or (extern_paths rs) m.number (extern [] [])) ident
  unfolding resolve_ident choose
  resolves z = rw (← taken_is, ne_eqb m.worth 0 z, taker_is) refl

  pub number_within : (m.worth ≡ 0 → ⊥) → m.number < length (extern_paths rs)
  number_within z = let h : Among (0 + length (extern_paths rs)) m = rw e (best_among (weighed false ident) 1 none_yet 0 (extern_paths rs) (λ n. absurd (n refl))) in let k : m.number < 0 + length (extern_paths rs) = h z in omega arith

-- ---- the extern path of a number
type_at : (rs qs : List Setting) (j n : ℕ) → length rs ≡ n → n ≤ j → get_or (rs ++ qs) j (extern [] []) ≡ get_or qs (j - n) (extern [] [])
type_at rs qs j n e h =
    let k : j ≡ length rs + (j - n) = omega arith in
    ap (λ (i : ℕ). get_or (rs ++ qs) i (extern [] [])) k ∙ get_or-append-add rs qs (j - n) (extern [] [])

pub found_row : (rs : List Setting) (j : ℕ) → j < length rs → slice_get rs j ≡ Some (get_or rs j (extern [] []))
found_row [] j h = absurd (omega arith)
found_row (r ∷ rs) zero h = refl
found_row (r ∷ rs) (suc j) h = found_row rs j (omega arith)

module _ (rs : List Setting) (ident : List ℕ) (l : length ident < 2 ^ 63) (m : Best) (e : m ≡ best_of (weighed false ident) 1 none_yet 0 (extern_paths rs)) (z : m.worth ≡ 0 → ⊥) where
  -- a row is there where its number is one
  pub row_there : m.number < length rs → slice_get rs m.number ≡ None → ⊥
  row_there h n = let f = found_row rs m.number h in cc

  pub resolved_row : m.number < length rs → (r : Setting) → slice_get rs m.number ≡ Some r → resolve_by (extern r.path (r.value ++ [])) ident ≡ resolve_ident rs ident
  unfolding resolve_by extern_paths
  resolved_row h r q =
      let f : get_or rs m.number (extern [] []) ≡ r = same (sym (found_row rs m.number h) ∙ q) in
      rw (append-nil, resolves rs ident l m e z, get_or-append rs (if_given (prost_path rs) (value_of 12 rs)) (extern [] []) m.number h, f) refl
    where
      same : {x y : Setting} → Some x ≡ Some y → x ≡ y
      same p = cc

  -- else it is a prost type's
  pub types_there : length rs ≤ m.number → find (is_of 12) rs ≡ None → ⊥
  types_there h n = let k : m.number < length (extern_paths rs) = number_within rs ident l m e z in let q : length (extern_paths rs) ≡ length rs = ap length (without rs n) in omega arith

  pub resolved_type : length rs ≤ m.number → (r : Setting) → find (is_of 12) rs ≡ Some r → (x : Setting) → x ≡ get_or (prost_types (prost_path rs) r.value) (m.number - length rs) (extern [] []) → resolve_by x ident ≡ resolve_ident rs ident
  resolved_type h r q x w =
      rw (resolves rs ident l m e z, with_types rs r q, type_at rs (prost_types (prost_path rs) r.value) m.number (length rs) refl h, w) refl
