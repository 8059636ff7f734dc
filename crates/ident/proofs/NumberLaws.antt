-- What sanitising adds to a name, by the number of the listed word that it is: computed tests of all listed words. Assumes nothing.
use mathlib.Core.Path.{◌≡◌, refl, sym, ap, ◌∙◌, subst}
use mathlib.Core.Bool.{Bool, true, false, ◌&&◌, not}
use mathlib.Core.List.{List, [], ◌∷◌}
use Rattle.std.proofs.Common.{Some, None}
use Prim.Native.Nat.{ℕ, zero, suc, ◌/◌, ◌<◌, ◌≤◌}
use native.Mathlib.Omega.{arith}
use native.Mathlib.Decide.{dec_lt}
use lib.Dec.{ltb, leb}
use Rattle.std.specs.Str.{bytes_eq}
use lib.ListN.{length, get_or}
use borrow.Author.Tests.{le-ltb, lt-leb, not-true}
use Rattle.base.specs.Choose.{choose}
use Rattle.base.specs.Bytes.{same, same_sound}
use Rattle.base.specs.Tests.{and_left, and_right}
use Rattle.base.proofs.BytesLaws.{same_bytes}
use Rattle.heck.specs.Case.{between, is_digit}
use Rattle.ident.specs.Ident.{among, raw_words, kept_words, addition, is_trailing}
use Rattle.ident.specs.Numbers.{word, numbers, number_of, numbered, begins_kept}
use Rattle.ident.specs.declared.keywords.Addition.TheVariants.{Nothing, Raw, Leading}
use Rattle.ident.proofs.EveryLaws.{all, none_among}

-- ---- names that are no listed word: they fail a test that every listed word passes
no_word : (p : List ℕ → Bool) (x : List ℕ) → all p raw_words ≡ true → all p kept_words ≡ true → p x ≡ false → numbered None x ≡ addition x
unfolding addition numbered choose
no_word p x h k e = rw (none_among p x raw_words h e, none_among p x kept_words k e)

abbrev number : List ℕ → ℕ
number x = number_of (get_or x 0 0) (get_or x (length x / 2) 0) (length x)

module _ (x : List ℕ) where
  pub empty_none : length x ≡ 0 → numbered None x ≡ addition x
  unfolding all raw_words kept_words
  empty_none h = no_word (λ (w : List ℕ). ltb 0 (length w)) x refl refl (le-ltb 0 (length x) (omega arith))

  pub long_none : 8 < length x → numbered None x ≡ addition x
  unfolding all raw_words kept_words
  long_none h = no_word (λ (w : List ℕ). leb (length w) 8) x refl refl (lt-leb (length x) 8 h)

  pub numberless_none : 53 ≤ number x → numbered None x ≡ addition x
  unfolding all raw_words kept_words numbers number_of
  numberless_none h = no_word (λ (w : List ℕ). ltb (number w) 53) x refl refl (le-ltb (number x) 53 h)

  pub unlike_none : bytes_eq x (word (number x)) ≡ false → numbered None x ≡ addition x
  unfolding all raw_words kept_words numbers number_of word
  unlike_none h = no_word (λ (w : List ℕ). bytes_eq w (word (number w))) x refl refl h

-- ---- the listed words
below : (ℕ → Bool) → ℕ → Bool
below p zero = true
below p (suc n) = p n && below p n

below_at : (p : ℕ → Bool) (n k : ℕ) → below p n ≡ true → k < n → p k ≡ true
unfolding below
below_at p zero k h l = absurd (omega arith)
below_at p (suc n) k h l = on (below_at p n k (and_right (p n) (below p n) h)) (dec_lt k n)
  where
    on : (k < n → p k ≡ true) → Dec (k < n) → p k ≡ true
    on f (yes m) = f m
    on f (no m) = let e : n ≡ k = omega arith in subst (λ (j : ℕ). p j ≡ true) e (and_left (p n) (below p n) h)

in_its_table : ℕ → Bool
in_its_table k = choose (ltb k 47) (among (word k) raw_words) (not (among (word k) raw_words) && among (word k) kept_words)

each_in_its_table : below in_its_table 53 ≡ true
unfolding below in_its_table choose among raw_words kept_words word same
each_in_its_table = refl

numbered_word : (k : ℕ) → k < 53 → numbered (Some k) (word k) ≡ addition (word k)
unfolding numbered addition choose in_its_table
numbered_word k l = on (ltb k 47) refl (below_at in_its_table 53 k each_in_its_table l)
  where
    on : (t : Bool) → ltb k 47 ≡ t → in_its_table k ≡ true → numbered (Some k) (word k) ≡ addition (word k)
    on true e h = let m : among (word k) raw_words ≡ true = rw e at h in rw (e, m)
    on false e h =
        let m : (not (among (word k) raw_words) && among (word k) kept_words) ≡ true = rw e at h in
        let r = not-true (among (word k) raw_words) (and_left (not (among (word k) raw_words)) (among (word k) kept_words) m) in
        let s = and_right (not (among (word k) raw_words)) (among (word k) kept_words) m in
        rw (e, r, s)

pub is_listed : (x : List ℕ) (k : ℕ) → k < 53 → bytes_eq x (word k) ≡ true → numbered (Some k) x ≡ addition x
is_listed x k l h =
    let f : x ≡ word k = same_sound x (word k) (sym (same_bytes x (word k)) ∙ h) in
    ap (numbered (Some k)) f ∙ numbered_word k l ∙ ap addition (sym f)

pub ruleset number_laws = (empty_none, long_none, numberless_none, unlike_none, is_listed)

-- ---- names that gain no trailing `_`
pub not_kept : (x rest : List ℕ) (c : ℕ) → x ≡ c ∷ rest → begins_kept c ≡ false → is_trailing (addition x) ≡ false
unfolding addition choose all kept_words begins_kept
not_kept x rest c e h =
    rw (none_among (λ (w : List ℕ). begins_kept (get_or w 0 0)) x kept_words refl (rw e h)) (on (among x raw_words) (is_digit (get_or x 0 0)))
  where
    on : (t u : Bool) → is_trailing (choose t Raw (choose u Leading Nothing)) ≡ false
    on true u = refl
    on false true = refl
    on false false = refl

pub empty_not_kept : (x : List ℕ) → x ≡ [] → is_trailing (addition x) ≡ false
unfolding addition choose among raw_words kept_words same between
empty_not_kept x e = rw e

pub ruleset kept_laws = (not_kept, empty_not_kept)
