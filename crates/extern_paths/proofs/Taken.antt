-- Theorems about extern paths: what is taken stays taken under further segments, and document 01's row. Assumes nothing.
use mathlib.Core.Path.{◌≡◌, refl, subst, sym, ◌∙◌}
use mathlib.Core.Logic.{⊎_elim}
use mathlib.Core.Bool.{Bool, true, false, ◌&&◌, ◌||◌, and-false}
use mathlib.Core.List.{List, [], ◌∷◌, ◌++◌}
use Prim.Native.Nat.{ℕ, ◌+◌, ◌-◌, ◌≤◌, ◌<◌}
use native.Mathlib.Omega.{arith}
use native.Mathlib.Nat.{sub-zero}
use native.Mathlib.Decide.{dec_lt}
use borrow.Author.Tests.{eq-eqb, ne_eqb, eqb-true, eqb-false}
use lib.Dec.{eqb}
use lib.ListN.{length, take, drop, get_or, length-append, get_or-append}
use lib.Seq.{take-append-le, take-append_seam, get_or-append_seam}
use Rattle.base.specs.Choose.{choose}
use Rattle.base.specs.Lists.{any}
use Rattle.base.specs.Tests.{both_ways, and_left, and_right, and_both, or_left, or_right, or_cases, by_test}
use Rattle.base.specs.Bytes.{b, same, same_refl, same_sound}
use Rattle.base.proofs.BytesLaws.{same_bytes}
use Rattle.std.proofs.Math.Bool.{and-or_distrib_left}
use Rattle.heck.specs.Case.{between, class, lowered, raised, parts, words, to_snake_case, to_upper_camel_case}
use Rattle.ident.specs.Ident.{among as among_words, raw_words, kept_words, addition, with_addition, sanitize_identifier, to_snake, to_upper_camel}
use Rattle.options.specs.Settings.{Setting, value_of}
use Rattle.path.specs.Forms.{before_dots, filled, prefixes, among}
use Rattle.path.specs.PathMap.{first_with, find_best}
use Rattle.path.proofs.FormLaws.{prefix_empty, prefix_long, prefix_is}
use Rattle.split.specs.Split.{begins, split_behind, split}
use Rattle.extern_paths.specs.ExternPaths.{extern, extern_paths, taken, first_segment, resolve_by, resolve_ident, extern_text}

-- document 01: `.g` to `crate::MyMod` makes `.g.In.msg` `crate::my_mod::r#in::Msg`
pub table_extern : extern_text (resolve_ident (extern (b ".g") (b "crate::MyMod") ∷ []) (b ".g.In.msg")) ≡ b "crate::my_mod::r#in::Msg"
unfolding choose same between class lowered raised parts words to_snake_case to_upper_camel_case among_words raw_words kept_words addition with_addition sanitize_identifier to_snake to_upper_camel value_of before_dots filled prefixes first_with find_best begins split_behind split extern_paths taken first_segment resolve_by resolve_ident extern_text
table_extern = refl

-- ---- a form is found where a row has it
abbrev has : ℕ → List (List ℕ) → Setting → Bool
has kind fs r = eqb r.kind kind && among r.path fs

first_any : (kind : ℕ) (f : List ℕ) (i : ℕ) (rs : List Setting) → (first_with kind f i rs).found ≡ any (λ (r : Setting). eqb r.kind kind && same r.path f) rs
unfolding first_with any choose
first_any kind f i [] = refl
first_any kind f i (r ∷ rs) =
    elim (eqb r.kind kind && same r.path f) as (λ t. (choose t (record { found = true; number = i }) (first_with kind f (i + 1) rs)).found ≡ (t || any (λ (r : Setting). eqb r.kind kind && same r.path f) rs))
    [ true ↦ refl | false ↦ first_any kind f (i + 1) rs ]

any_or : (p q : Setting → Bool) (rs : List Setting) → any (λ (r : Setting). p r || q r) rs ≡ (any p rs || any q rs)
unfolding any
any_or p q [] = refl
any_or p q (r ∷ rs) = rw (any_or p q rs) (mix (p r) (q r) (any p rs) (any q rs))
  where
    mix : (a c d e : Bool) → ((a || c) || (d || e)) ≡ ((a || d) || (c || e))
    mix true c d e = refl
    mix false true true e = refl
    mix false true false e = refl
    mix false false d e = refl

any_none : (kind : ℕ) (rs : List Setting) → false ≡ any (has kind []) rs
unfolding any among
any_none kind [] = refl
any_none kind (r ∷ rs) = rw (and-false (eqb r.kind kind)) (any_none kind rs)

any_same : (p q : Setting → Bool) (rs : List Setting) → ((r : Setting) → p r ≡ q r) → any p rs ≡ any q rs
unfolding any
any_same p q [] h = refl
any_same p q (r ∷ rs) h = rw (h r, any_same p q rs h) refl

has_more : (kind : ℕ) (f : List ℕ) (fs : List (List ℕ)) (r : Setting) → ((eqb r.kind kind && same r.path f) || has kind fs r) ≡ has kind (f ∷ fs) r
unfolding among
has_more kind f fs r = sym (and-or_distrib_left (eqb r.kind kind) (same r.path f) (among r.path fs))

found_any : (kind : ℕ) (fs : List (List ℕ)) (i : ℕ) (rs : List Setting) → (find_best kind fs i rs).found ≡ any (has kind fs) rs
unfolding find_best choose
found_any kind [] i rs = any_none kind rs
found_any kind (f ∷ fs) i rs =
    by_test (λ (t : Bool). (first_with kind f i rs).found ≡ t → (choose t (first_with kind f i rs) (find_best kind fs i rs)).found ≡ (t || (find_best kind fs i rs).found)) (first_with kind f i rs).found (λ _. λ q. q) (λ _. λ _. refl) refl
    ∙ rw (first_any kind f i rs, found_any kind fs i rs, ← any_or (λ (r : Setting). eqb r.kind kind && same r.path f) (has kind fs) rs)
    (any_same (λ (r : Setting). (eqb r.kind kind && same r.path f) || has kind fs r) (has kind (f ∷ fs)) rs (has_more kind f fs))

any_on : (p q : Setting → Bool) (rs : List Setting) → ((r : Setting) → p r ≡ true → q r ≡ true) → any p rs ≡ true → any q rs ≡ true
unfolding any
any_on p q [] f h = h
any_on p q (r ∷ rs) f h =
    ⊎_elim (λ a. or_left (any q rs) (f r a)) (λ a. or_right (q r) (any_on p q rs f a)) (or_cases (p r) (any p rs) h)

-- ---- the forms of a name are forms of a longer one
module _ (s x : List ℕ) (f : length x ≡ 0 → ⊥) (h : length x < length s) where
  prefix_no_dot : (get_or s (length x) 0 ≡ 46 → ⊥) → false ≡ among x (prefixes s)
  prefix_no_dot n = rw (prefix_is s x (omega arith) h, ne_eqb (get_or s (length x) 0) 46 n) refl

  prefix_same : (z : Bool) → get_or s (length x) 0 ≡ 46 → z ≡ same x (take (length x - 0) (drop 0 s)) → z ≡ among x (prefixes s)
  prefix_same z e q =
      rw (prefix_is s x (omega arith) h, eq-eqb (get_or s (length x) 0) 46 e, same_bytes x (take (length x) s)) (rw sub-zero at q)

module _ (x y : List ℕ) where
  abbrev longer : List ℕ
  longer = x ++ (46 ∷ y)

  itself : (length x ≡ 0 → ⊥) → among x (prefixes longer) ≡ true
  itself f =
      let l : length x < length longer = rw length-append (omega arith) in
      sym (prefix_same longer x f l true (get_or-append_seam x 46 y 0) (sym (rw (sub-zero, take-append_seam) (same_refl x))))

  module _ (z : List ℕ) (f : length z ≡ 0 → ⊥) (l : length z < length x) (h : among z (prefixes x) ≡ true) where
    dot_there : get_or x (length z) 0 ≡ 46
    dot_there =
        by_test (λ (t : Bool). eqb (get_or x (length z) 0) 46 ≡ t → get_or x (length z) 0 ≡ 46) (eqb (get_or x (length z) 0) 46)
        (λ _. λ q. eqb-true (get_or x (length z) 0) 46 q)
        (λ _. λ q. both_ways h (sym (prefix_no_dot x z f l (eqb-false (get_or x (length z) 0) 46 q)))) refl

    same_there : same z (take (length z - 0) (drop 0 x)) ≡ true
    same_there = prefix_same x z f l (same z (take (length z - 0) (drop 0 x))) dot_there refl ∙ h

    prefix_on : among z (prefixes longer) ≡ true
    prefix_on =
        let k : length z < length longer = rw length-append (omega arith) in
        let m : length z ≤ length x = omega arith in
        sym (prefix_same longer z f k true (get_or-append x (46 ∷ y) 0 (length z) l ∙ dot_there) (sym (rw (sub-zero, take-append-le (length z) x (46 ∷ y) m) (rw sub-zero at same_there))))

  prefix_stays : (z : List ℕ) → among z (prefixes x) ≡ true → among z (prefixes longer) ≡ true
  prefix_stays [] h = both_ways h (prefix_empty x [] refl)
  prefix_stays (c ∷ z) h = on (dec_lt (length (c ∷ z)) (length x))
    where
      full : length (c ∷ z) ≡ 0 → ⊥
      full e = omega arith

      on : Dec (length (c ∷ z) < length x) → among (c ∷ z) (prefixes longer) ≡ true
      on (yes l) = prefix_on (c ∷ z) full l h
      on (no l) = both_ways h (prefix_long x (c ∷ z) (omega arith) (omega arith))

  forms_stay : (length x ≡ 0 → ⊥) → (z : List ℕ) → among z (x ∷ prefixes x) ≡ true → among z (longer ∷ prefixes longer) ≡ true
  unfolding among
  forms_stay f z h =
      or_right (same z longer)
      (⊎_elim (λ a. subst (λ w. among w (prefixes longer) ≡ true) (sym (same_sound z x a)) (itself f)) (λ a. prefix_stays z a) (or_cases (same z x) (among z (prefixes x)) h))

-- a full name that is taken is taken with further segments too. The name isn't empty: an empty path is no prefix
pub taken_on : (rs : List Setting) (x y : List ℕ) → (length x ≡ 0 → ⊥) → taken rs x ≡ true → taken rs (x ++ (46 ∷ y)) ≡ true
unfolding taken
taken_on rs x y f h =
    rw (found_any 1 (longer x y ∷ prefixes (longer x y)) 0 (extern_paths rs))
    (any_on (has 1 (x ∷ prefixes x)) (has 1 (longer x y ∷ prefixes (longer x y))) (extern_paths rs)
    (λ r. λ q. and_both (and_left (eqb r.kind 1) (among r.path (x ∷ prefixes x)) q) (forms_stay x y f r.path (and_right (eqb r.kind 1) (among r.path (x ∷ prefixes x)) q)))
    (rw (found_any 1 (x ∷ prefixes x) 0 (extern_paths rs)) at h))

-- without that: an extern path that is empty takes the empty name, and nothing that has a segment
pub taken_empty : (v : List ℕ) → (taken (extern [] v ∷ []) [] ≡ true) × (taken (extern [] v ∷ []) (b ".a") ≡ false)
unfolding taken extern_paths value_of first_with find_best prefixes filled before_dots same choose
taken_empty v = (refl, refl)
