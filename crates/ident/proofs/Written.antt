-- What is written for a name is an identifier by the Rust Reference, and never a word that may not stand there. Assumes nothing.
use mathlib.Core.Path.{◌≡◌, refl, ap}
use mathlib.Core.Bool.{Bool, true, false, ◌||◌, not}
use mathlib.Core.Logic.{◌⊎◌, inl, inr}
use mathlib.Core.Option.{Option, some, none}
use mathlib.Core.List.{List, [], ◌∷◌, ◌++◌}
use Prim.Native.Nat.{ℕ}
use lib.Dec.{eqb}
use lib.ListN.{get_or}
use borrow.Author.Tests.{not-true}
use Rattle.base.specs.Choose.{choose, choose_case}
use Rattle.base.specs.Tests.{bool_cases, both_ways, and_both, or_left, or_right, or_cases}
use Rattle.base.specs.Bytes.{b, same}
use Rattle.heck.specs.Case.{between, is_lower, is_upper, is_digit, class, to_snake_case, to_upper_camel_case}
use Rattle.heck.specs.Pass.{cased}
use Rattle.heck.specs.declared.State.TheVariants.{Start}
use Rattle.heck.proofs.Spelling.{snake_cased, camel_cased}
use Rattle.ident.specs.Name.{name_start, name_part, every, is_name, has_word}
use Rattle.ident.specs.Ident.{among, raw_words, kept_words, addition, is_trailing, with_addition, sanitize_identifier, to_snake, to_upper_camel, strip_prefix, true_prefix, strip_enum_prefix}
use Rattle.ident.specs.Reference.{strict_keywords, reserved_keywords, keywords, never_raw, non_keyword_identifier, raw_identifier, identifier, primitive_types}
use Rattle.ident.proofs.EveryLaws.{every_append, every_head, every_tail, every_also, all, all_among, none_among}
use Rattle.ident.proofs.Spelled.{alphanumeric, in_snake, alphanumeric_cases, upper_alphanumeric, cased_in_snake, cased_first}
use Rattle.ident.proofs.Stripped.{lower_word, no_raw, camel, strip_cased}

-- ---- sanitising, by its four cases
data Sanitized (y : List ℕ) : List ℕ → Type 0 where
  raw : among y raw_words ≡ true → Sanitized y (b "r#" ++ y)
  trailing : among y kept_words ≡ true → Sanitized y (y ++ b "_")
  leading : is_digit (get_or y 0 0) ≡ true → Sanitized y (b "_" ++ y)
  nothing : among y raw_words ≡ false → among y kept_words ≡ false → is_digit (get_or y 0 0) ≡ false → Sanitized y y

sanitized : (y : List ℕ) → Sanitized y (sanitize_identifier y)
unfolding sanitize_identifier addition with_addition choose
sanitized y = on (bool_cases (among y raw_words)) (bool_cases (among y kept_words)) (bool_cases (is_digit (get_or y 0 0)))
  where
    on : (among y raw_words ≡ true) ⊎ (among y raw_words ≡ false) → (among y kept_words ≡ true) ⊎ (among y kept_words ≡ false) → (is_digit (get_or y 0 0) ≡ true) ⊎ (is_digit (get_or y 0 0) ≡ false) → Sanitized y (sanitize_identifier y)
    on (inl r) k d = rw r (raw r)
    on (inr r) (inl k) d = rw (r, k) (trailing k)
    on (inr r) (inr k) (inl d) = rw (r, k, d) (leading d)
    on (inr r) (inr k) (inr d) = rw (r, k, d) (nothing r k d)

-- ---- the tables, each by one test of its words
raw_right : List ℕ → Bool
raw_right w = raw_identifier (b "r#" ++ w)

trailing_right : List ℕ → Bool
trailing_right w = identifier (w ++ b "_")

trailing_free : List ℕ → Bool
trailing_free w = not (among (w ++ b "_") kept_words)

listed : List ℕ → Bool
listed w = among w raw_words || among w kept_words

raw_all : all raw_right raw_words ≡ true
unfolding all raw_right raw_identifier raw_words among never_raw is_name name_start name_part every same choose between
raw_all = refl

trailing_all : all trailing_right kept_words ≡ true
unfolding all trailing_right identifier non_keyword_identifier raw_identifier kept_words among strict_keywords reserved_keywords never_raw is_name name_start name_part every same choose between
trailing_all = refl

trailing_none : all trailing_free kept_words ≡ true
unfolding all trailing_free kept_words among same
trailing_none = refl

keywords_listed : all listed keywords ≡ true
unfolding all listed raw_words kept_words strict_keywords reserved_keywords among same
keywords_listed = refl

-- ---- an identifier
module _ (c : ℕ) where
  pub alphanumeric_part : alphanumeric c ≡ true → name_part c ≡ true
  unfolding name_part name_start
  alphanumeric_part h = on (alphanumeric_cases c h)
    where
      on : (is_lower c ≡ true) ⊎ ((is_upper c ≡ true) ⊎ (is_digit c ≡ true)) → (is_digit c || (is_upper c || (is_lower c || eqb c 95))) ≡ true
      on (inl p) = or_right (is_digit c) (or_right (is_upper c) (or_left (eqb c 95) p))
      on (inr (inl p)) = or_right (is_digit c) (or_left (is_lower c || eqb c 95) p)
      on (inr (inr p)) = or_left (is_upper c || (is_lower c || eqb c 95)) p

  pub in_snake_part : in_snake c ≡ true → name_part c ≡ true
  unfolding name_part name_start
  in_snake_part h = on (or_cases (is_lower c) (is_digit c || eqb c 95) h)
    where
      rest : (is_digit c ≡ true) ⊎ (eqb c 95 ≡ true) → (is_digit c || (is_upper c || (is_lower c || eqb c 95))) ≡ true
      rest (inl p) = or_left (is_upper c || (is_lower c || eqb c 95)) p
      rest (inr p) = or_right (is_digit c) (or_right (is_upper c) (or_right (is_lower c) p))

      on : (is_lower c ≡ true) ⊎ ((is_digit c || eqb c 95) ≡ true) → (is_digit c || (is_upper c || (is_lower c || eqb c 95))) ≡ true
      on (inl p) = or_right (is_digit c) (or_right (is_upper c) (or_left (eqb c 95) p))
      on (inr p) = rest (or_cases (is_digit c) (eqb c 95) p)

  part_start : name_part c ≡ true → is_digit c ≡ false → name_start c ≡ true
  unfolding name_part
  part_start h d = rw d at h

-- `_` before a name that begins with a digit is no keyword
under_free : (c : ℕ) (s : List ℕ) → among (95 ∷ (c ∷ s)) keywords ≡ false
unfolding among strict_keywords reserved_keywords same
under_free c s = refl

identifier_as : (y x : List ℕ) → Sanitized y x → every name_part y ≡ true → alphanumeric (get_or y 0 0) ≡ true → identifier x ≡ true
unfolding identifier raw_right trailing_right listed non_keyword_identifier is_name name_start between class choose
identifier_as y x (raw r) h f = or_right (non_keyword_identifier (b "r#" ++ y)) (all_among raw_right y raw_words raw_all r)
identifier_as y x (trailing k) h f = all_among trailing_right y kept_words trailing_all k
identifier_as [] x (leading d) h f = both_ways d refl
identifier_as (c ∷ s) x (leading d) h f = or_left (raw_identifier (95 ∷ (c ∷ s))) (and_both h (ap not (under_free c s)))
identifier_as [] x (nothing r k d) h f = both_ways f refl
identifier_as (c ∷ s) x (nothing r k d) h f =
    or_left (raw_identifier (c ∷ s))
    (and_both (and_both (part_start c (every_head name_part c s h) d) (every_tail name_part c s h)) (ap not (none_among listed (c ∷ s) keywords keywords_listed (rw r k))))

-- what sanitising makes of letters, digits and `_`, a letter or digit in front
pub sanitized_identifier : (y : List ℕ) → every name_part y ≡ true → alphanumeric (get_or y 0 0) ≡ true → identifier (sanitize_identifier y) ≡ true
sanitized_identifier y h f = identifier_as y (sanitize_identifier y) (sanitized y) h f

snake_parts : (s : List ℕ) → every name_part (to_snake_case s) ≡ true
snake_parts s =
    rw (← snake_cased s) (every_also in_snake name_part in_snake_part (cased false Start s) (cased_in_snake Start s))

pub snake_identifier : (s : List ℕ) → has_word s ≡ true → identifier (to_snake s) ≡ true
unfolding to_snake
snake_identifier s h = sanitized_identifier (to_snake_case s) (snake_parts s) (rw (← snake_cased s) (cased_first false s h))

camel_parts : (s : List ℕ) → every name_part (to_upper_camel_case s) ≡ true
camel_parts s = every_also alphanumeric name_part alphanumeric_part (to_upper_camel_case s) (camel s).plain

camel_begins : (s : List ℕ) → has_word s ≡ true → alphanumeric (get_or (to_upper_camel_case s) 0 0) ≡ true
camel_begins s h = rw (← camel_cased s) (cased_first true s h)

pub camel_identifier : (s : List ℕ) → has_word s ≡ true → identifier (to_upper_camel s) ≡ true
unfolding to_upper_camel
camel_identifier s h = sanitized_identifier (to_upper_camel_case s) (camel_parts s) (camel_begins s h)

-- ---- a variant, with the enum's written name taken off or not
rest_parts : (p n N : List ℕ) → every alphanumeric n ≡ true → every alphanumeric N ≡ true → every alphanumeric (true_prefix (strip_prefix p n) N) ≡ true
unfolding strip_prefix true_prefix
rest_parts [] n N h k = choose_case (λ (l : List ℕ). every alphanumeric l ≡ true) (is_upper (get_or n 0 0)) (λ _. h) (λ _. k)
rest_parts (a ∷ p) [] N h k = k
rest_parts (a ∷ p) (c ∷ n) N h k =
    choose_case (λ (o : Option (List ℕ)). every alphanumeric (true_prefix o N) ≡ true) (eqb a c) (λ _. rest_parts p n N (every_tail alphanumeric c n h) k) (λ _. k)

rest_begins : (o : Option (List ℕ)) (N : List ℕ) → alphanumeric (get_or N 0 0) ≡ true → alphanumeric (get_or (true_prefix o N) 0 0) ≡ true
unfolding true_prefix
rest_begins none N h = h
rest_begins (some r) N h =
    choose_case (λ (l : List ℕ). alphanumeric (get_or l 0 0) ≡ true) (is_upper (get_or r 0 0)) (λ e. upper_alphanumeric (get_or r 0 0) e) (λ _. h)

-- what stands behind the prefix, or the whole name
abbrev behind_prefix : List ℕ → List ℕ → List ℕ
behind_prefix prefix name = true_prefix (strip_prefix (to_upper_camel_case prefix) (to_upper_camel_case name)) (to_upper_camel_case name)

behind_parts : (prefix name : List ℕ) → every name_part (behind_prefix prefix name) ≡ true
behind_parts prefix name =
    every_also alphanumeric name_part alphanumeric_part (behind_prefix prefix name)
    (rest_parts (to_upper_camel_case prefix) (to_upper_camel_case name) (to_upper_camel_case name) (camel name).plain (camel name).plain)

pub variant_identifier : (prefix name : List ℕ) → has_word name ≡ true → identifier (strip_enum_prefix (to_upper_camel prefix) (to_upper_camel name)) ≡ true
variant_identifier prefix name h =
    rw (strip_cased prefix name)
    (choose_case (λ (l : List ℕ). identifier (sanitize_identifier l) ≡ true) (is_trailing (addition (to_upper_camel_case prefix)))
    (λ _. sanitized_identifier (to_upper_camel_case name) (camel_parts name) (camel_begins name h))
    (λ _. sanitized_identifier (behind_prefix prefix name) (behind_parts prefix name)
    (rest_begins (strip_prefix (to_upper_camel_case prefix) (to_upper_camel_case name)) (to_upper_camel_case name) (camel_begins name h))))

-- ---- of letters, digits, `_` and `#` alone, also where a name has no letter or digit
abbrev pub written : ℕ → Bool
written c = name_part c || eqb c 35

written_as : (y x : List ℕ) → Sanitized y x → every written y ≡ true → every written x ≡ true
unfolding every choose name_part name_start between
written_as y x (raw r) h = h
written_as y x (trailing k) h = every_append written y (b "_") h refl
written_as y x (leading d) h = h
written_as y x (nothing r k d) h = h

sanitized_written : (y : List ℕ) → every name_part y ≡ true → every written (sanitize_identifier y) ≡ true
sanitized_written y h =
    written_as y (sanitize_identifier y) (sanitized y) (every_also name_part written (λ c e. or_left (eqb c 35) e) y h)

pub snake_written : (s : List ℕ) → every written (to_snake s) ≡ true
unfolding to_snake
snake_written s = sanitized_written (to_snake_case s) (snake_parts s)

pub camel_written : (s : List ℕ) → every written (to_upper_camel s) ≡ true
unfolding to_upper_camel
camel_written s = sanitized_written (to_upper_camel_case s) (camel_parts s)

pub variant_written : (prefix name : List ℕ) → every written (strip_enum_prefix (to_upper_camel prefix) (to_upper_camel name)) ≡ true
variant_written prefix name =
    rw (strip_cased prefix name)
    (choose_case (λ (l : List ℕ). every written (sanitize_identifier l) ≡ true) (is_trailing (addition (to_upper_camel_case prefix)))
    (λ _. sanitized_written (to_upper_camel_case name) (camel_parts name)) (λ _. sanitized_written (behind_prefix prefix name) (behind_parts prefix name)))

-- ---- never `_`, `super`, `self`, `Self`, `extern` or `crate`
free_as : (y x : List ℕ) → Sanitized y x → among x kept_words ≡ false
unfolding among kept_words same trailing_free between
free_as y x (raw r) = refl
free_as y x (trailing k) = not-true (among (y ++ b "_") kept_words) (all_among trailing_free y kept_words trailing_none k)
free_as [] x (leading d) = both_ways d refl
free_as (c ∷ s) x (leading d) = refl
free_as y x (nothing r k d) = k

pub sanitized_free : (y : List ℕ) → among (sanitize_identifier y) kept_words ≡ false
sanitized_free y = free_as y (sanitize_identifier y) (sanitized y)

pub snake_free : (s : List ℕ) → among (to_snake s) kept_words ≡ false
unfolding to_snake
snake_free s = sanitized_free (to_snake_case s)

pub camel_free : (s : List ℕ) → among (to_upper_camel s) kept_words ≡ false
unfolding to_upper_camel
camel_free s = sanitized_free (to_upper_camel_case s)

pub variant_free : (prefix name : List ℕ) → among (strip_enum_prefix prefix name) kept_words ≡ false
unfolding strip_enum_prefix
variant_free prefix name = sanitized_free (true_prefix (strip_prefix prefix name) name)

-- ---- a camel name is no primitive type's name, whatever that begins with no lowercase letter stands behind it
primitives_low : all lower_word primitive_types ≡ true
unfolding all lower_word primitive_types between
primitives_low = refl

high_append : (x t : List ℕ) → is_lower (get_or x 0 0) ≡ false → is_lower (get_or t 0 0) ≡ false → is_lower (get_or (x ++ t) 0 0) ≡ false
high_append [] t h k = k
high_append (c ∷ x) t h k = h

high_as : (y x : List ℕ) → Sanitized y x → is_lower (get_or y 0 0) ≡ false → is_lower (get_or x 0 0) ≡ false
unfolding between
high_as y x (raw r) h = both_ways r (no_raw y h)
high_as y x (trailing k) h = high_append y (b "_") h refl
high_as y x (leading d) h = refl
high_as y x (nothing r k d) h = h

pub camel_high : (s : List ℕ) → is_lower (get_or (to_upper_camel s) 0 0) ≡ false
unfolding to_upper_camel
camel_high s = high_as (to_upper_camel_case s) (to_upper_camel s) (sanitized (to_upper_camel_case s)) (camel s).high

pub camel_no_primitive : (s t : List ℕ) → is_lower (get_or t 0 0) ≡ false → among (to_upper_camel s ++ t) primitive_types ≡ false
unfolding lower_word
camel_no_primitive s t h = none_among lower_word (to_upper_camel s ++ t) primitive_types primitives_low (high_append (to_upper_camel s) t (camel_high s) h)
