-- How long a written name is: of a name of 64 bytes, at most 106 bytes in snake case and 64 in camel case. Assumes nothing.
use mathlib.Core.Path.{◌≡◌, refl, ap, ◌∙◌}
use mathlib.Core.Bool.{Bool, true, false, ◌||◌, ◌&&◌}
use mathlib.Core.Logic.{◌⊎◌, inl, inr}
use mathlib.Core.List.{List, [], ◌∷◌, ◌++◌}
use Prim.Native.Nat.{ℕ, ◌-◌, ◌^◌, ◌≤◌, ◌<◌}
use native.Mathlib.Omega.{arith}
use native.Mathlib.Nat.{zero-add}
use lib.Dec.{leb, eqb}
use lib.ListN.{length, get_or, drop, replicate, length-append, length-replicate}
use lib.Seq.{sets-eq}
use borrow.Author.Tests.{leb-true, eqb-true}
use Rattle.base.specs.Choose.{choose, choose_case}
use Rattle.base.specs.Tests.{bool_cases, both_ways, and_left, and_right, or_cases}
use Rattle.base.specs.Bytes.{b, same}
use Rattle.std.proofs.lemmas.List.{drop-replicate}
use Rattle.writer.specs.Wrote.{Wrote, over, after}
use Rattle.writer.specs.Draft.{Filled}
use Rattle.writer.proofs.TextLaws.{measured, wholly}
use Rattle.heck.specs.Case.{between, is_lower, is_upper, is_digit, class, lowered, raised, lower_first, parts, words, to_snake_case}
use Rattle.heck.specs.Pass.{next, separated, spelt as spelt_byte, character, piece, cased}
use Rattle.heck.specs.declared.Class.{Class}
use Rattle.heck.specs.declared.Class.TheVariants.{Other, Digit, Lower, Upper}
use Rattle.heck.specs.declared.State.TheVariants.{Start}
use Rattle.heck.proofs.Characters.{from_low, above}
use Rattle.heck.proofs.Spelling.{snake_cased, camel_cased}
use Rattle.heck.proofs.Lengths.{snake_length, camel_length}
use Rattle.ident.specs.Name.{name_start, name_part, every, is_name, has_word}
use Rattle.ident.specs.Ident.{among, raw_words, kept_words, addition, with_addition, sanitize_identifier, to_snake, to_upper_camel}
use Rattle.ident.specs.Convert.{padded, convertible, spelt}
use Rattle.ident.specs.declared.Spellings.{Spellings}
use Rattle.ident.proofs.EveryLaws.{all, all_among}

-- ---- what sanitising adds to the length
at_most_eight : List ℕ → Bool
at_most_eight w = leb (length w) 8

module _ (y : List ℕ) (m : ℕ) (h : 10 ≤ m) (l : length y ≤ m) (d : is_digit (get_or y 0 0) ≡ true → length y < m) where
  pub sanitized_length : length (sanitize_identifier y) ≤ m
  unfolding sanitize_identifier addition with_addition choose all at_most_eight raw_words kept_words
  sanitized_length = on (bool_cases (among y raw_words)) (bool_cases (among y kept_words)) (bool_cases (is_digit (get_or y 0 0)))
    where
      on : (among y raw_words ≡ true) ⊎ (among y raw_words ≡ false) → (among y kept_words ≡ true) ⊎ (among y kept_words ≡ false) → (is_digit (get_or y 0 0) ≡ true) ⊎ (is_digit (get_or y 0 0) ≡ false) → length (sanitize_identifier y) ≤ m
      on (inl r) k e =
          let s = leb-true (length y) 8 (all_among at_most_eight y raw_words refl r) in
          rw r (omega arith)
      on (inr r) (inl k) e =
          let s = leb-true (length y) 8 (all_among at_most_eight y kept_words refl k) in
          let a = length-append y (95 ∷ []) in
          rw (r, k) (omega arith)
      on (inr r) (inr k) (inl e) = let s = d e in rw (r, k, e) (omega arith)
      on (inr r) (inr k) (inr e) = rw (r, k, e) l

-- ---- a name whose spelling begins with a digit begins with `_`
start_low : (c : ℕ) → name_start c ≡ true → 65 ≤ c
unfolding name_start
start_low c h = on (or_cases (is_upper c) (is_lower c || eqb c 95) h)
  where
    rest : (is_lower c ≡ true) ⊎ (eqb c 95 ≡ true) → 65 ≤ c
    rest (inl e) = let k = from_low 97 122 c e in omega arith
    rest (inr e) = let k = eqb-true c 95 e in omega arith

    on : (is_upper c ≡ true) ⊎ ((is_lower c || eqb c 95) ≡ true) → 65 ≤ c
    on (inl e) = from_low 65 90 c e
    on (inr e) = rest (or_cases (is_lower c) (eqb c 95) e)

spelt_low : (k f : Bool) (c : ℕ) → 65 ≤ c → 65 ≤ spelt_byte k f c
unfolding spelt_byte lowered raised
spelt_low k f c h =
    choose_case (λ x. 65 ≤ x) (k && f)
    (λ _. choose_case (λ x. 65 ≤ x) (is_lower c) (λ e. let g = from_low 97 122 c e in omega arith) (λ _. h))
    (λ _. choose_case (λ x. 65 ≤ x) (is_upper c) (λ _. omega arith) (λ _. h))

spelt_no_digit : (k f : Bool) (c : ℕ) → 65 ≤ c → is_digit (spelt_byte k f c) ≡ false
spelt_no_digit k f c h = let g = spelt_low k f c h in above 48 57 (spelt_byte k f c) (omega arith)

begins_other : (k : Bool) (c : ℕ) (s : List ℕ) → name_start c ≡ true → is_digit (get_or (cased k Start (c ∷ s)) 0 0) ≡ true → cased k Start (c ∷ s) ≡ cased k Start s
unfolding cased piece character separated choose
begins_other k c s n d = on (class c) k d
  where
    no : (k : Bool) → is_digit (spelt_byte k true c) ≡ true → (l : List ℕ) → l ≡ cased k Start s
    no k e l = both_ways e (spelt_no_digit k true c (start_low c n))

    on : (x : Class) (k : Bool) → is_digit (get_or (piece k Start x (lower_first s) c ++ cased k (next Start x) s) 0 0) ≡ true → piece k Start x (lower_first s) c ++ cased k (next Start x) s ≡ cased k Start s
    on Other k e = refl
    on Digit true e = no true e (piece true Start Digit (lower_first s) c ++ cased true (next Start Digit) s)
    on Digit false e = no false e (piece false Start Digit (lower_first s) c ++ cased false (next Start Digit) s)
    on Lower true e = no true e (piece true Start Lower (lower_first s) c ++ cased true (next Start Lower) s)
    on Lower false e = no false e (piece false Start Lower (lower_first s) c ++ cased false (next Start Lower) s)
    on Upper true e = no true e (piece true Start Upper (lower_first s) c ++ cased true (next Start Upper) s)
    on Upper false e = no false e (piece false Start Upper (lower_first s) c ++ cased false (next Start Upper) s)

-- ---- the two names of a name of at most 64 bytes
pub snake_fits : (s : List ℕ) → is_name s ≡ true → length s ≤ 64 → length (to_snake s) ≤ 106
unfolding is_name to_snake
snake_fits [] n l = both_ways n refl
snake_fits (c ∷ s) n l =
    let start = and_left (name_start c) (every name_part s) n in
    let h = snake_length (c ∷ s) in
    let k = snake_length s in
    rw (← snake_cased (c ∷ s))
    (sanitized_length (cased false Start (c ∷ s)) 106 (omega arith) (omega arith) (λ d. let e = ap length (begins_other false c s start d) in omega arith))

pub camel_fits : (s : List ℕ) → is_name s ≡ true → length s ≤ 64 → length (to_upper_camel s) ≤ 64
unfolding is_name to_upper_camel
camel_fits [] n l = both_ways n refl
camel_fits (c ∷ s) n l =
    let start = and_left (name_start c) (every name_part s) n in
    let h = camel_length Start (c ∷ s) in
    let k = camel_length Start s in
    rw (← camel_cased (c ∷ s))
    (sanitized_length (cased true Start (c ∷ s)) 64 (omega arith) (omega arith) (λ d. let e = ap length (begins_other true c s start d) in omega arith))

-- the bound is reached
unfoldable pub longest : List ℕ
longest = b "AAaAAaAAaAAaAAaAAaAAaAAaAAaAAaAAaAAaAAaAAaAAaAAaAAaAAaAAaAAaAAaA"

pub snake_longest : (length longest ≡ 64) × (length (to_snake longest) ≡ 106)
unfolding longest choose same between class lowered parts words to_snake_case among raw_words kept_words addition with_addition sanitize_identifier to_snake
snake_longest = (refl, refl)

-- ---- what a name leaves in an array of zeros
module _ {n : ℕ} {p t : List ℕ} {r : ℕ} (w : Wrote (replicate n 0) 0 p t r) (h : length p ≤ n) where
  pub written_padded : t ≡ padded n p
  unfolding over padded
  written_padded =
      let l = length-replicate {A = ℕ} n 0 in
      w.text ∙ sets-eq p (replicate n 0) 0 (omega arith) ∙ ap (λ (k : ℕ). p ++ drop k (replicate n 0)) (zero-add (length p)) ∙ ap (λ (z : List ℕ). p ++ z) (drop-replicate (length p) n 0)

  pub written_length : n < 2 ^ 63 → r ≡ length p
  unfolding after
  written_length k = w.next ∙ omega arith

-- a filled array of zeros
filled_padded : {n : ℕ} {p t : List ℕ} {r : ℕ} → Filled (replicate n 0) p t r → length p ≤ n → n < 2 ^ 63 → t ≡ padded n p
unfolding padded
filled_padded {n} {p} w h k =
    let l = length-replicate {A = ℕ} n 0 in
    wholly w (omega arith) (omega arith) ∙ ap (λ (z : List ℕ). p ++ z) (drop-replicate (length p) n 0)

pub spellings_are : (s snake camel : List ℕ) (a e : ℕ) → convertible s ≡ true → Filled (replicate 106 0) (to_snake s) snake a → Filled (replicate 64 0) (to_upper_camel s) camel e → ◌≡◌ {A = Spellings} (record { snake = snake; snakelen = a; camel = camel; camellen = e }) (spelt (to_snake s) (to_upper_camel s))
unfolding convertible spelt
spellings_are s snake camel a e h w v =
    let name = and_left (is_name s) (leb (length s) 64) (and_left (is_name s && leb (length s) 64) (has_word s) h) in
    let size = leb-true (length s) 64 (and_right (is_name s) (leb (length s) 64) (and_left (is_name s && leb (length s) 64) (has_word s) h)) in
    let p = snake_fits s name size in
    let q = camel_fits s name size in
    let m : a ≡ length (to_snake s) = measured w ∙ omega arith in
    let n : e ≡ length (to_upper_camel s) = measured v ∙ omega arith in
    rw (filled_padded w p (omega arith), m, filled_padded v q (omega arith), n)
