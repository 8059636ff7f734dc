-- One name in front of the other.
use Rattle.std.proofs.Common.{◌≡◌, refl, sym, ap, ap₂, ◌∙◌, Bool, true, false, not, Option as Maybe, Some, None, List, [], ◌∷◌, ℕ, length, take, drop, get_or, eqb, eq-eqb, ne_eqb, eqb-true}
use Rattle.std.specs.Char.{is_ascii_uppercase}
use Rattle.std.proofs.Math.Option.{Option, some, none}
use Rattle.std.specs.Iterator.{YieldsFirst}
use Rattle.std.specs.Option.{option_eq}
use borrow.Author.Tests.{not-true}
use lib.Pointwise.{pointwise}
use Rattle.base.specs.Choose.{choose}
use Rattle.base.specs.Tests.{both_ways, and_left, and_right}
use Rattle.heck.specs.Case.{between}
use Rattle.ident.specs.Ident.{strip_prefix, true_prefix}

-- ---- byte by byte
module _ (p n : List ℕ) where
  pub alike : (x : ℕ) (xs ys : List ℕ) → p ≡ x ∷ xs → n ≡ x ∷ ys → strip_prefix p n ≡ strip_prefix xs ys
  unfolding strip_prefix choose
  alike x xs ys e f = ap₂ strip_prefix e f ∙ rw (eq-eqb x x refl)

  unlike : (x y : ℕ) (xs ys : List ℕ) → p ≡ x ∷ xs → n ≡ y ∷ ys → (x ≡ y → ⊥) → strip_prefix p n ≡ none
  unfolding strip_prefix choose
  unlike x y xs ys e f h = ap₂ strip_prefix e f ∙ rw (ne_eqb x y h)

  name_ends : (x : ℕ) (xs : List ℕ) → p ≡ x ∷ xs → n ≡ [] → strip_prefix p n ≡ none
  unfolding strip_prefix
  name_ends x xs e f = ap₂ strip_prefix e f

  pub prefix_ends : p ≡ [] → strip_prefix p n ≡ some n
  unfolding strip_prefix
  prefix_ends e = ap (λ (l : List ℕ). strip_prefix l n) e

  -- o is what an iterator over n gave, which left n'
  pub other_byte : (x : ℕ) (xs n' : List ℕ) (o : Maybe ℕ) → p ≡ x ∷ xs → YieldsFirst (λ (l : List ℕ). l) n o n' → not (option_eq eqb o (Some x)) ≡ true → strip_prefix p n ≡ none
  other_byte x xs n' None e f h = name_ends x xs e f.0
  other_byte x xs n' (Some y) e f h = unlike x y xs n' e f (λ k. both_ways (eq-eqb y x (sym k)) (not-true (eqb y x) h))

-- ---- the rest of a name N
module _ (o : Option (List ℕ)) (N : List ℕ) where
  pub no_prefix : o ≡ none → true_prefix o N ≡ N
  unfolding true_prefix
  no_prefix e = rw e

  module _ (r : List ℕ) (e : o ≡ some r) where
    pub upper_rest : is_ascii_uppercase (get_or r 0 0) ≡ true → true_prefix o N ≡ r
    unfolding true_prefix choose between
    upper_rest h = rw (e, h)

    pub other_rest : is_ascii_uppercase (get_or r 0 0) ≡ false → true_prefix o N ≡ N
    unfolding true_prefix choose between
    other_rest h = rw (e, h)

    pub no_rest : r ≡ [] → true_prefix o N ≡ N
    unfolding true_prefix choose between
    no_rest h = rw (e, h)

    module _ (y : ℕ) (ys : List ℕ) (f : r ≡ y ∷ ys) where
      pub upper_next : is_ascii_uppercase y ≡ true → true_prefix o N ≡ r
      upper_next h = upper_rest (ap (λ (l : List ℕ). is_ascii_uppercase (get_or l 0 0)) f ∙ h)

      pub other_next : is_ascii_uppercase y ≡ false → true_prefix o N ≡ N
      other_next h = other_rest (ap (λ (l : List ℕ). is_ascii_uppercase (get_or l 0 0)) f ∙ h)

pub ruleset step_laws = (alike, prefix_ends, no_prefix, no_rest)

-- ---- all at once
pub stripped : (p s : List ℕ) → pointwise eqb (take (length p) s) p ≡ true → strip_prefix p s ≡ some (drop (length p) s)
unfolding strip_prefix choose
stripped [] s h = refl
stripped (x ∷ p) [] h = both_ways h refl
stripped (x ∷ p) (c ∷ s) h =
    let e = eqb-true c x (and_left (eqb c x) (pointwise eqb (take (length p) s) p) h) in
    rw (eq-eqb x c (sym e)) (stripped p s (and_right (eqb c x) (pointwise eqb (take (length p) s) p) h))

pub unstripped : (p s : List ℕ) → pointwise eqb (take (length p) s) p ≡ false → strip_prefix p s ≡ none
unfolding strip_prefix choose
unstripped [] s h = both_ways refl h
unstripped (x ∷ p) [] h = refl
unstripped (x ∷ p) (c ∷ s) h = on (eqb x c) refl (λ k. unstripped p s k)
  where
    on : (t : Bool) → eqb x c ≡ t → (pointwise eqb (take (length p) s) p ≡ false → strip_prefix p s ≡ none) → choose t (strip_prefix p s) none ≡ none
    on true e f = f (rw (eq-eqb c x (sym (eqb-true x c e))) at h)
    on false e f = refl

pub ruleset slice_laws = (stripped, unstripped, no_prefix, upper_rest, other_rest)
