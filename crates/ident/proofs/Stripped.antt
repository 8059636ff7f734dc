-- The written names of an enum and a value are compared as well before they are sanitised, unless the enum's is `Self`: `strip_cased`. Assumes nothing.
use mathlib.Core.Path.{◌≡◌, refl, sym, ap, ap₂, subst, ◌∙◌}
use mathlib.Core.Bool.{Bool, true, false, not, ◌||◌}
use mathlib.Core.Logic.{◌⊎◌, inl, inr}
use mathlib.Core.Option.{Option, some, none}
use mathlib.Core.List.{List, [], ◌∷◌, ◌++◌}
use Prim.Native.Nat.{ℕ}
use native.Mathlib.Omega.{arith}
use lib.Dec.{eqb}
use lib.ListN.{get_or}
use borrow.Author.Tests.{ne_eqb, not-true}
use Rattle.base.specs.Choose.{choose, choose_case}
use Rattle.base.specs.Bytes.{b, same, same_sound}
use Rattle.base.specs.Tests.{bool_cases, both_ways, or_cases}
use Rattle.heck.specs.Case.{between, is_lower, is_upper, is_digit, class, to_upper_camel_case}
use Rattle.heck.specs.declared.State.TheVariants.{Start}
use Rattle.heck.proofs.Characters.{to_high, under}
use Rattle.heck.proofs.Spelling.{camel_cased}
use Rattle.ident.specs.Name.{every}
use Rattle.ident.specs.Ident.{among, raw_words, kept_words, addition, is_trailing, with_addition, sanitize_identifier, to_upper_camel, strip_prefix, true_prefix, strip_enum_prefix}
use Rattle.ident.specs.declared.keywords.Addition.{Addition}
use Rattle.ident.specs.declared.keywords.Addition.TheVariants.{Nothing, Trailing, Leading}
use Rattle.ident.proofs.EveryLaws.{every_head, every_tail, all, all_among, none_among}
use Rattle.ident.proofs.Spelled.{alphanumeric, cased_alphanumeric, camel_first}

-- ---- camel names before sanitising: letters and digits, no lowercase letter first
pub record Camel (x : List ℕ) : Type 0 where
  pub plain : every alphanumeric x ≡ true
  pub high : is_lower (get_or x 0 0) ≡ false

pub camel : (s : List ℕ) → Camel (to_upper_camel_case s)
camel s =
    subst (λ (x : List ℕ). Camel x) (camel_cased s) (record { plain = cased_alphanumeric Start s; high = camel_first s })

-- `_` is no letter and no digit
plain_head : (c : ℕ) (s : List ℕ) → every alphanumeric (c ∷ s) ≡ true → c ≡ 95 → ⊥
unfolding class choose between
plain_head c s h e = both_ways (sym (ap alphanumeric e) ∙ every_head alphanumeric c s h) refl

plain_first : (x : List ℕ) → every alphanumeric x ≡ true → eqb (get_or x 0 0) 95 ≡ false
plain_first [] h = refl
plain_first (c ∷ s) h = ne_eqb c 95 (plain_head c s h)

-- ---- what sanitising adds to a camel name
unfoldable pub lower_word : List ℕ → Bool
lower_word w = is_lower (get_or w 0 0)

-- of the words that gain `_`, only `Self` is one
self_word : List ℕ → Bool
self_word w = is_lower (get_or w 0 0) || (eqb (get_or w 0 0) 95 || same w (b "Self"))

pub no_raw : (x : List ℕ) → is_lower (get_or x 0 0) ≡ false → among x raw_words ≡ false
unfolding all raw_words lower_word between
no_raw x h = none_among lower_word x raw_words refl h

is_self : (x : List ℕ) → Camel x → among x kept_words ≡ true → x ≡ b "Self"
unfolding all kept_words self_word between same
is_self x c h = on (or_cases (is_lower (get_or x 0 0)) (eqb (get_or x 0 0) 95 || same x (b "Self")) (all_among self_word x kept_words refl h))
  where
    or_self : (eqb (get_or x 0 0) 95 ≡ true) ⊎ (same x (b "Self") ≡ true) → x ≡ b "Self"
    or_self (inl e) = both_ways e (plain_first x c.plain)
    or_self (inr e) = same_sound x (b "Self") e

    on : (is_lower (get_or x 0 0) ≡ true) ⊎ ((eqb (get_or x 0 0) 95 || same x (b "Self")) ≡ true) → x ≡ b "Self"
    on (inl e) = both_ways e c.high
    on (inr e) = or_self (or_cases (eqb (get_or x 0 0) 95) (same x (b "Self")) e)

data Added (x : List ℕ) : Type 0 where
  trailing : addition x ≡ Trailing → x ≡ b "Self" → Added x
  leading : addition x ≡ Leading → is_digit (get_or x 0 0) ≡ true → Added x
  nothing : addition x ≡ Nothing → is_digit (get_or x 0 0) ≡ false → Added x

added : (x : List ℕ) → Camel x → Added x
unfolding addition choose
added x c = on (bool_cases (among x kept_words)) (bool_cases (is_digit (get_or x 0 0)))
  where
    on : (among x kept_words ≡ true) ⊎ (among x kept_words ≡ false) → (is_digit (get_or x 0 0) ≡ true) ⊎ (is_digit (get_or x 0 0) ≡ false) → Added x
    on (inl k) d = trailing (rw (no_raw x c.high, k)) (is_self x c k)
    on (inr k) (inl d) = leading (rw (no_raw x c.high, k, d)) d
    on (inr k) (inr d) = nothing (rw (no_raw x c.high, k, d)) d

sanitize_as : (x : List ℕ) (a : Addition) → addition x ≡ a → sanitize_identifier x ≡ with_addition a x
unfolding sanitize_identifier
sanitize_as x a e = ap (λ (k : Addition). with_addition k x) e

-- a digit is no uppercase letter, and not 0
digit_no_upper : (c : ℕ) → is_digit c ≡ true → is_upper c ≡ false
digit_no_upper c e = let k = to_high 48 57 c e in under 65 90 c (omega arith)

-- ---- sanitising twice
leading_twice : (n : List ℕ) → is_digit (get_or n 0 0) ≡ true → addition (95 ∷ n) ≡ Nothing
unfolding addition choose between among kept_words same
leading_twice [] d = both_ways d refl
leading_twice (c ∷ s) d = rw (no_raw (95 ∷ (c ∷ s)) refl)

self_twice : sanitize_identifier (b "Self_") ≡ b "Self_"
unfolding sanitize_identifier addition with_addition choose among raw_words kept_words same between
self_twice = refl

self_once : sanitize_identifier (b "Self") ≡ b "Self_"
unfolding sanitize_identifier addition with_addition choose among raw_words kept_words same between
self_once = refl

leading_is : (n : List ℕ) → addition n ≡ Leading → sanitize_identifier n ≡ 95 ∷ n
unfolding with_addition
leading_is n e = sanitize_as n Leading e

nothing_is : (n : List ℕ) → addition n ≡ Nothing → sanitize_identifier n ≡ n
unfolding with_addition
nothing_is n e = sanitize_as n Nothing e

leading_again : (n : List ℕ) → addition n ≡ Leading → is_digit (get_or n 0 0) ≡ true → sanitize_identifier (95 ∷ n) ≡ sanitize_identifier n
leading_again n e d = nothing_is (95 ∷ n) (leading_twice n d) ∙ sym (leading_is n e)

-- ---- names that have no true prefix
-- letters behind the prefix, none of them uppercase
not_upper : ℕ → Bool
not_upper c = not (is_upper c)

low_rest : (p r N : List ℕ) → every not_upper r ≡ true → true_prefix (strip_prefix p r) N ≡ N
unfolding strip_prefix true_prefix choose between not_upper
low_rest [] [] N h = refl
low_rest [] (c ∷ r) N h = rw (not-true (is_upper c) (every_head not_upper c r h))
low_rest (a ∷ p) [] N h = refl
low_rest (a ∷ p) (c ∷ r) N h =
    choose_case (λ (o : Option (List ℕ)). true_prefix o N ≡ N) (eqb a c) (λ _. low_rest p r N (every_tail not_upper c r h)) (λ _. refl)

-- a prefix with `_` in it
under_prefix : (p r n : List ℕ) → every alphanumeric n ≡ true → strip_prefix (p ++ (95 ∷ r)) n ≡ none
unfolding strip_prefix choose
under_prefix [] r [] h = refl
under_prefix [] r (c ∷ n) h = rw (ne_eqb 95 c (λ e. plain_head c n h (sym e)))
under_prefix (a ∷ p) r [] h = refl
under_prefix (a ∷ p) r (c ∷ n) h =
    choose_case (λ (o : Option (List ℕ)). o ≡ none) (eqb a c) (λ _. under_prefix p r n (every_tail alphanumeric c n h)) (λ _. refl)

-- another first character: a digit in one only
digit_prefix : (p n N : List ℕ) → is_digit (get_or p 0 0) ≡ true → is_digit (get_or n 0 0) ≡ false → true_prefix (strip_prefix p n) N ≡ N
unfolding strip_prefix true_prefix choose between
digit_prefix [] n N d e = both_ways d refl
digit_prefix (a ∷ p) [] N d e = refl
digit_prefix (a ∷ p) (c ∷ n) N d e = rw (ne_eqb a c (λ f. both_ways (ap is_digit (sym f) ∙ d) e))

digit_name : (p n : List ℕ) → is_digit (get_or p 0 0) ≡ false → is_digit (get_or n 0 0) ≡ true → true_prefix (strip_prefix p n) n ≡ n
unfolding strip_prefix true_prefix choose between
digit_name p [] e d = both_ways d refl
digit_name [] (c ∷ n) e d = rw (digit_no_upper c d)
digit_name (a ∷ p) (c ∷ n) e d = rw (ne_eqb a c (λ f. both_ways (ap is_digit f ∙ d) e))

under_name : (p n : List ℕ) → every alphanumeric p ≡ true → true_prefix (strip_prefix p (95 ∷ n)) (95 ∷ n) ≡ 95 ∷ n
unfolding strip_prefix true_prefix choose between
under_name [] n h = refl
under_name (a ∷ p) n h = rw (ne_eqb a 95 (plain_head a p h))

-- ---- `Self` as the value's name, and as the enum's
self_name : (p : List ℕ) → sanitize_identifier (true_prefix (strip_prefix p (b "Self_")) (b "Self_")) ≡ sanitize_identifier (true_prefix (strip_prefix p (b "Self")) (b "Self"))
unfolding strip_prefix true_prefix choose between every not_upper
self_name [] = self_twice ∙ sym self_once
self_name (a ∷ p) =
    ap sanitize_identifier (low (b "lf_") refl (b "Self_")) ∙ (self_twice ∙ sym self_once) ∙ ap sanitize_identifier (sym (low (b "lf") refl (b "Self")))
  where
    low : (r : List ℕ) → every not_upper r ≡ true → (N : List ℕ) → true_prefix (strip_prefix (a ∷ p) (83 ∷ (101 ∷ r))) N ≡ N
    low r h N = choose_case (λ (o : Option (List ℕ)). true_prefix o N ≡ N) (eqb a 83) (λ _. low_rest p (101 ∷ r) N h) (λ _. refl)

self_prefix : (n : List ℕ) → Camel n → true_prefix (strip_prefix (b "Self_") (sanitize_identifier n)) (sanitize_identifier n) ≡ sanitize_identifier n
unfolding true_prefix strip_prefix choose between
self_prefix n c = on (added n c)
  where
    whole : (m : List ℕ) → sanitize_identifier n ≡ m → true_prefix (strip_prefix (b "Self_") m) m ≡ m → true_prefix (strip_prefix (b "Self_") (sanitize_identifier n)) (sanitize_identifier n) ≡ sanitize_identifier n
    whole m e h = subst (λ (l : List ℕ). true_prefix (strip_prefix (b "Self_") l) l ≡ l) (sym e) h

    on : Added n → true_prefix (strip_prefix (b "Self_") (sanitize_identifier n)) (sanitize_identifier n) ≡ sanitize_identifier n
    on (trailing a e) = whole (b "Self_") (ap sanitize_identifier e ∙ self_once) refl
    on (leading a d) = whole (95 ∷ n) (leading_is n a) refl
    on (nothing a d) = whole n (nothing_is n a) (rw (under_prefix (b "Self") [] n c.plain))

-- ---- the whole of it, by what is added to each of the two
abbrev stripped : List ℕ → List ℕ → List ℕ
stripped x y = sanitize_identifier (true_prefix (strip_prefix x y) y)

module _ (p n : List ℕ) (P : Camel p) (N : Camel n) where
  twice : sanitize_identifier (sanitize_identifier n) ≡ sanitize_identifier n
  twice = on (added n N)
    where
      on : Added n → sanitize_identifier (sanitize_identifier n) ≡ sanitize_identifier n
      on (trailing a e) =
          ap (λ (l : List ℕ). sanitize_identifier (sanitize_identifier l)) e ∙ ap sanitize_identifier self_once ∙ self_twice ∙ sym self_once
          ∙ ap sanitize_identifier (sym e)
      on (leading a d) = ap sanitize_identifier (leading_is n a) ∙ leading_again n a d
      on (nothing a d) = ap sanitize_identifier (nothing_is n a)

  same_written : (x y : List ℕ) → sanitize_identifier p ≡ x → sanitize_identifier n ≡ y → stripped x y ≡ stripped p n → stripped (sanitize_identifier p) (sanitize_identifier n) ≡ stripped p n
  same_written x y e f h = ap₂ stripped e f ∙ h

  nothing_added : Added n → addition p ≡ Nothing → is_digit (get_or p 0 0) ≡ false → stripped (sanitize_identifier p) (sanitize_identifier n) ≡ stripped p n
  nothing_added (trailing a e) k f =
      same_written p (b "Self_") (nothing_is p k) (ap sanitize_identifier e ∙ self_once) (self_name p ∙ ap (stripped p) (sym e))
  nothing_added (leading a d) k f =
      same_written p (95 ∷ n) (nothing_is p k) (leading_is n a)
      (ap sanitize_identifier (under_name p n P.plain) ∙ leading_again n a d ∙ ap sanitize_identifier (sym (digit_name p n f d)))
  nothing_added (nothing a d) k f = same_written p n (nothing_is p k) (nothing_is n a) refl

  leading_added : Added n → addition p ≡ Leading → is_digit (get_or p 0 0) ≡ true → stripped (sanitize_identifier p) (sanitize_identifier n) ≡ stripped p n
  unfolding strip_prefix choose true_prefix between
  leading_added (trailing a e) k f =
      same_written (95 ∷ p) (b "Self_") (leading_is p k) (ap sanitize_identifier e ∙ self_once)
      (self_twice ∙ sym self_once ∙ ap sanitize_identifier (sym e)
      ∙ ap sanitize_identifier (sym (digit_prefix p n n f (ap (λ (l : List ℕ). is_digit (get_or l 0 0)) e))))
  leading_added (leading a d) k f =
      same_written (95 ∷ p) (95 ∷ n) (leading_is p k) (leading_is n a) (on (strip_prefix p n))
    where
      on : (o : Option (List ℕ)) → sanitize_identifier (true_prefix o (95 ∷ n)) ≡ sanitize_identifier (true_prefix o n)
      on none = leading_again n a d
      on (some r) = at (is_upper (get_or r 0 0))
        where
          at : (t : Bool) → sanitize_identifier (choose t r (95 ∷ n)) ≡ sanitize_identifier (choose t r n)
          at true = refl
          at false = leading_again n a d
  leading_added (nothing a d) k f =
      same_written (95 ∷ p) n (leading_is p k) (nothing_is n a)
      (ap (λ (o : Option (List ℕ)). sanitize_identifier (true_prefix o n)) (under_prefix [] p n N.plain) ∙ ap sanitize_identifier (sym (digit_prefix p n n f d)))

  strip_camel : stripped (sanitize_identifier p) (sanitize_identifier n) ≡ sanitize_identifier (choose (is_trailing (addition p)) n (true_prefix (strip_prefix p n) n))
  unfolding choose
  strip_camel = on (added p P)
    where
      on : Added p → stripped (sanitize_identifier p) (sanitize_identifier n) ≡ sanitize_identifier (choose (is_trailing (addition p)) n (true_prefix (strip_prefix p n) n))
      on (trailing a e) =
          rw a
          (ap (λ (l : List ℕ). stripped l (sanitize_identifier n)) (ap sanitize_identifier e ∙ self_once)
          ∙ ap sanitize_identifier (self_prefix n N) ∙ twice)
      on (leading a d) = rw a (leading_added (added n N) a d)
      on (nothing a d) = rw a (nothing_added (added n N) a d)

pub strip_cased : (prefix name : List ℕ) → strip_enum_prefix (to_upper_camel prefix) (to_upper_camel name) ≡ sanitize_identifier (choose (is_trailing (addition (to_upper_camel_case prefix))) (to_upper_camel_case name) (true_prefix (strip_prefix (to_upper_camel_case prefix) (to_upper_camel_case name)) (to_upper_camel_case name)))
unfolding strip_enum_prefix to_upper_camel
strip_cased prefix name = strip_camel (to_upper_camel_case prefix) (to_upper_camel_case name) (camel prefix) (camel name)

-- ---- the whole name is kept, or what stands behind the prefix
module _ (prefix name : List ℕ) where
  strip_by : (t : Bool) → is_trailing (addition (to_upper_camel_case prefix)) ≡ t → strip_enum_prefix (to_upper_camel prefix) (to_upper_camel name) ≡ sanitize_identifier (choose t (to_upper_camel_case name) (true_prefix (strip_prefix (to_upper_camel_case prefix) (to_upper_camel_case name)) (to_upper_camel_case name)))
  strip_by t e =
      strip_cased prefix name
      ∙ ap (λ (k : Bool). sanitize_identifier (choose k (to_upper_camel_case name) (true_prefix (strip_prefix (to_upper_camel_case prefix) (to_upper_camel_case name)) (to_upper_camel_case name)))) e

  pub strip_none : is_trailing (addition (to_upper_camel_case prefix)) ≡ true → strip_enum_prefix (to_upper_camel prefix) (to_upper_camel name) ≡ sanitize_identifier (to_upper_camel_case name)
  unfolding choose
  strip_none e = strip_by true e

  pub strip_rest : is_trailing (addition (to_upper_camel_case prefix)) ≡ false → strip_enum_prefix (to_upper_camel prefix) (to_upper_camel name) ≡ sanitize_identifier (true_prefix (strip_prefix (to_upper_camel_case prefix) (to_upper_camel_case name)) (to_upper_camel_case name))
  unfolding choose
  strip_rest e = strip_by false e
