-- Laws of the forms: their lengths fall, and whether a byte string is one of them is told without building them. Assumes nothing.
use mathlib.Core.Path.{◌≡◌, refl, sym, ap, ◌∙◌}
use mathlib.Core.Bool.{Bool, true, false, ◌&&◌, ◌||◌, and-false}
use mathlib.Core.List.{List, [], ◌∷◌, ◌++◌, map}
use Prim.Native.Nat.{ℕ, suc, ◌-◌, ◌≤◌, ◌<◌}
use native.Mathlib.Omega.{arith}
use native.Mathlib.Decide.{dec_lt}
use lib.Dec.{eqb}
use lib.ListN.{length, take, drop, get_or, length-drop}
use lib.Seq.{take_all}
use Rattle.std.specs.Str.{bytes_eq}
use Rattle.base.specs.Choose.{choose}
use Rattle.base.specs.Bytes.{same, same_length}
use Rattle.base.proofs.BytesLaws.{same_bytes}
use Rattle.std.proofs.Math.Bool.{or-false, and-or_distrib_left, and-true}
use Rattle.path.specs.Forms.{behind_dots, before_dots, filled, suffixes, prefixes, among}

-- ---- lengths fall, from below n on
abbrev pub Falls : ℕ → List (List ℕ) → Type 0
Falls n [] = Unit
Falls n (x ∷ xs) = (length x < n) × Falls (length x) xs

falls_more : {n m : ℕ} (xs : List (List ℕ)) → n ≤ m → Falls n xs → Falls m xs
falls_more [] h f = tt
falls_more (x ∷ xs) h f = (let l = f.0 in omega arith, f.1)

pub behind_falls : (s : List ℕ) → Falls (length s) (behind_dots s)
unfolding behind_dots choose
behind_falls [] = tt
behind_falls (c ∷ s) =
    elim (eqb c 46) as (λ t. Falls (length (c ∷ s)) (choose t (s ∷ behind_dots s) (behind_dots s)))
    [ true ↦ (omega arith, behind_falls s) | false ↦ falls_more (behind_dots s) (omega arith) (behind_falls s) ]

cons_falls : (c : ℕ) (t : Bool) (n : ℕ) (xs : List (List ℕ)) → Falls n xs → Falls (suc n) (map (λ x. c ∷ x) xs ++ choose t ([] ∷ []) [])
unfolding choose
cons_falls c true n [] f = (omega arith, tt)
cons_falls c false n [] f = tt
cons_falls c t n (x ∷ xs) f = (let l = f.0 in omega arith, cons_falls c t (length x) xs f.1)

pub before_falls : (s : List ℕ) → Falls (length s) (before_dots s)
unfolding before_dots
before_falls [] = tt
before_falls (c ∷ s) = cons_falls c (eqb c 46) (length s) (before_dots s) (before_falls s)

-- ---- what is longer than all is none of them
too_long : (n : ℕ) (x : List ℕ) (xs : List (List ℕ)) → Falls n xs → n ≤ length x → among x xs ≡ false
unfolding among
too_long n x [] f h = refl
too_long n x (y ∷ ys) f h =
    let l : length y < n = f.0 in
    rw (same_length x y (λ e. omega arith)) (too_long (length y) x ys f.1 (omega arith))

-- ---- an empty form is no form
filled_none : (xs : List (List ℕ)) → among [] (filled xs) ≡ false
unfolding among filled same
filled_none [] = refl
filled_none ([] ∷ xs) = filled_none xs
filled_none ((c ∷ x) ∷ xs) = filled_none xs

filled_same : (c : ℕ) (x : List ℕ) (xs : List (List ℕ)) → among (c ∷ x) (filled xs) ≡ among (c ∷ x) xs
unfolding among filled same
filled_same c x [] = refl
filled_same c x ([] ∷ xs) = filled_same c x xs
filled_same c x ((d ∷ y) ∷ xs) = ap (λ (t : Bool). same (c ∷ x) (d ∷ y) || t) (filled_same c x xs)

full_among : (x : List ℕ) (xs : List (List ℕ)) → (length x ≡ 0 → ⊥) → among x (filled xs) ≡ among x xs
full_among [] xs h = absurd (h refl)
full_among (c ∷ x) xs h = filled_same c x xs

empty_none : (x : List ℕ) (xs : List (List ℕ)) → length x ≡ 0 → among x (filled xs) ≡ false
empty_none [] xs h = filled_none xs
empty_none (c ∷ x) xs h = absurd (omega arith)

-- ---- suffixes
suffix_here : (s x : List ℕ) (t : Bool) → length s ≡ length x → among x (choose t (s ∷ behind_dots s) (behind_dots s)) ≡ (t && same x s)
unfolding choose among
suffix_here s x true e = rw (too_long (length s) x (behind_dots s) (behind_falls s) (omega arith)) (or-false (same x s))
suffix_here s x false e = too_long (length s) x (behind_dots s) (behind_falls s) (omega arith)

suffix_later : (s x : List ℕ) (t : Bool) → length x < length s → among x (choose t (s ∷ behind_dots s) (behind_dots s)) ≡ among x (behind_dots s)
unfolding choose among
suffix_later s x true l = rw (same_length x s (λ e. omega arith)) refl
suffix_later s x false l = refl

suffix_at : (s x : List ℕ) → length x < length s → among x (behind_dots s) ≡ (eqb (get_or s (length s - length x - 1) 0) 46 && same x (drop (length s - length x) s))
unfolding behind_dots
suffix_at [] x h = absurd (omega arith)
suffix_at (c ∷ s) x h = on (dec_lt (length x) (length s)) (suffix_at s x)
  where
    on : Dec (length x < length s) → (length x < length s → among x (behind_dots s) ≡ (eqb (get_or s (length s - length x - 1) 0) 46 && same x (drop (length s - length x) s))) → among x (choose (eqb c 46) (s ∷ behind_dots s) (behind_dots s)) ≡ (eqb (get_or (c ∷ s) (suc (length s) - length x - 1) 0) 46 && same x (drop (suc (length s) - length x) (c ∷ s)))
    on (yes l) again =
        let e : suc (length s) - length x ≡ suc (length s - length x) = omega arith in
        let f : suc (length s) - length x - 1 ≡ suc (length s - length x - 1) = omega arith in
        rw (f, e) (suffix_later s x (eqb c 46) l ∙ again l)
    on (no l) again =
        let e : suc (length s) - length x ≡ suc 0 = omega arith in
        let f : suc (length s) - length x - 1 ≡ 0 = omega arith in
        rw (f, e) (suffix_here s x (eqb c 46) (omega arith))

-- ---- prefixes
among_tail : (c : ℕ) (t : Bool) (xs : List (List ℕ)) → among [] (map (λ x. c ∷ x) xs ++ choose t ([] ∷ []) []) ≡ t
unfolding among same choose
among_tail c true [] = refl
among_tail c false [] = refl
among_tail c t (x ∷ xs) = among_tail c t xs

among_cons : (c d : ℕ) (t : Bool) (x : List ℕ) (xs : List (List ℕ)) → among (d ∷ x) (map (λ y. c ∷ y) xs ++ choose t ([] ∷ []) []) ≡ (eqb d c && among x xs)
unfolding among same choose
among_cons c d true x [] = sym (and-false (eqb d c))
among_cons c d false x [] = sym (and-false (eqb d c))
among_cons c d t x (y ∷ ys) = rw (among_cons c d t x ys) (sym (and-or_distrib_left (eqb d c) (same x y) (among x ys)))

swap : (p q r : Bool) → (p && (q && r)) ≡ (q && (p && r))
swap true q r = refl
swap false q r = sym (and-false q)

prefix_at : (s x : List ℕ) → length x < length s → among x (before_dots s) ≡ (eqb (get_or s (length x) 0) 46 && same x (take (length x) s))
unfolding before_dots same
prefix_at [] x h = absurd (omega arith)
prefix_at (c ∷ s) [] h = among_tail c (eqb c 46) (before_dots s) ∙ sym (and-true (eqb c 46))
prefix_at (c ∷ s) (d ∷ x) h =
    among_cons c d (eqb c 46) x (before_dots s) ∙ ap (λ (t : Bool). eqb d c && t) (prefix_at s x (omega arith))
    ∙ swap (eqb d c) (eqb (get_or s (length x) 0) 46) (same x (take (length x) s))

-- ---- what the code tests
module _ (s x : List ℕ) where
  pub suffix_empty : length x ≡ 0 → among x (suffixes s) ≡ false
  unfolding suffixes
  suffix_empty h = empty_none x (behind_dots s) h

  pub prefix_empty : length x ≡ 0 → among x (prefixes s) ≡ false
  unfolding prefixes
  prefix_empty h = empty_none x (before_dots s) h

  module _ (f : 0 < length x) where
    pub suffix_long : length s ≤ length x → among x (suffixes s) ≡ false
    unfolding suffixes
    suffix_long h = full_among x (behind_dots s) (λ e. omega arith) ∙ too_long (length s) x (behind_dots s) (behind_falls s) h

    pub prefix_long : length s ≤ length x → among x (prefixes s) ≡ false
    unfolding prefixes
    prefix_long h = full_among x (before_dots s) (λ e. omega arith) ∙ too_long (length s) x (before_dots s) (before_falls s) h

    module _ (h : length x < length s) where
      pub suffix_is : among x (suffixes s) ≡ (eqb (get_or s (length s - length x - 1) 0) 46 && bytes_eq x (take (length s - (length s - length x)) (drop (length s - length x) s)))
      unfolding suffixes
      suffix_is =
          rw (same_bytes x (take (length s - (length s - length x)) (drop (length s - length x) s)), take_all (length s - (length s - length x)) (drop (length s - length x) s) (rw length-drop (omega arith)))
          (full_among x (behind_dots s) (λ e. omega arith) ∙ suffix_at s x h)

      pub prefix_is : among x (prefixes s) ≡ (eqb (get_or s (length x) 0) 46 && bytes_eq x (take (length x) s))
      unfolding prefixes
      prefix_is = rw (same_bytes x (take (length x) s)) (full_among x (before_dots s) (λ e. omega arith) ∙ prefix_at s x h)

pub ruleset suffix_laws = (suffix_empty, suffix_long, suffix_is)

pub ruleset prefix_laws = (prefix_empty, prefix_long, prefix_is)
