-- What the case rule spells, before sanitising: letters and digits, in snake case lowercase ones with `_` between words. Assumes nothing.
use mathlib.Core.Path.{◌≡◌, refl, ap}
use mathlib.Core.Bool.{Bool, true, false, ◌&&◌, ◌||◌}
use mathlib.Core.Logic.{◌⊎◌, inl, inr}
use mathlib.Core.List.{List, [], ◌∷◌, ◌++◌}
use Prim.Native.Nat.{ℕ, ◌+◌, ◌-◌}
use native.Mathlib.Omega.{arith}
use lib.Dec.{eqb}
use lib.ListN.{get_or}
use Rattle.base.specs.Choose.{choose, choose_case}
use Rattle.base.specs.Tests.{bool_cases, both_ways, or_left, or_right}
use Rattle.heck.specs.Case.{between, is_lower, is_upper, is_digit, class, in_word, lowered, raised, lower_first}
use Rattle.heck.specs.Pass.{next, first, separated, spelt, character, piece, cased}
use Rattle.heck.specs.declared.Class.{Class}
use Rattle.heck.specs.declared.Class.TheVariants.{Other, Digit, Lower, Upper}
use Rattle.heck.specs.declared.State.{State}
use Rattle.heck.specs.declared.State.TheVariants.{Start}
use Rattle.heck.proofs.Characters.{to_high, under, lower_of_upper, upper_of_lower}
use Rattle.ident.specs.Name.{every, has_word}
use Rattle.ident.proofs.EveryLaws.{every_cons, every_append}

-- ---- characters
-- a letter or digit
abbrev pub alphanumeric : ℕ → Bool
alphanumeric c = in_word (class c)

-- a lowercase letter, a digit or `_`
abbrev pub in_snake : ℕ → Bool
in_snake c = is_lower c || (is_digit c || eqb c 95)

module _ (c : ℕ) where
  pub lower_alphanumeric : is_lower c ≡ true → alphanumeric c ≡ true
  unfolding class choose
  lower_alphanumeric e = rw e

  pub upper_alphanumeric : is_upper c ≡ true → alphanumeric c ≡ true
  unfolding class choose
  upper_alphanumeric e = on (bool_cases (is_lower c))
    where
      on : (is_lower c ≡ true) ⊎ (is_lower c ≡ false) → alphanumeric c ≡ true
      on (inl p) = rw p
      on (inr p) = rw (p, e)

  -- which of the three it is
  pub alphanumeric_cases : alphanumeric c ≡ true → (is_lower c ≡ true) ⊎ ((is_upper c ≡ true) ⊎ (is_digit c ≡ true))
  unfolding class choose
  alphanumeric_cases h = on (bool_cases (is_lower c)) (bool_cases (is_upper c)) (bool_cases (is_digit c))
    where
      on : (is_lower c ≡ true) ⊎ (is_lower c ≡ false) → (is_upper c ≡ true) ⊎ (is_upper c ≡ false) → (is_digit c ≡ true) ⊎ (is_digit c ≡ false) → (is_lower c ≡ true) ⊎ ((is_upper c ≡ true) ⊎ (is_digit c ≡ true))
      on (inl p) q r = inl p
      on (inr p) (inl q) r = inr (inl q)
      on (inr p) (inr q) (inl r) = inr (inr r)
      on (inr p) (inr q) (inr r) = both_ways h (rw (p, q, r))

module _ (c : ℕ) where
  pub lowered_alphanumeric : alphanumeric c ≡ true → alphanumeric (lowered c) ≡ true
  unfolding lowered
  lowered_alphanumeric h = choose_case (λ x. alphanumeric x ≡ true) (is_upper c) (λ e. lower_alphanumeric (c + 32) (lower_of_upper c e)) (λ e. h)

  pub raised_alphanumeric : alphanumeric c ≡ true → alphanumeric (raised c) ≡ true
  unfolding raised
  raised_alphanumeric h = choose_case (λ x. alphanumeric x ≡ true) (is_lower c) (λ e. upper_alphanumeric (c - 32) (upper_of_lower c e)) (λ e. h)

  pub raised_no_lower : is_lower (raised c) ≡ false
  unfolding raised
  raised_no_lower =
      choose_case (λ x. is_lower x ≡ false) (is_lower c)
      (λ e. let k = to_high 97 122 c e in under 97 122 (c - 32) (omega arith)) (λ e. e)

  pub lowered_in_snake : alphanumeric c ≡ true → in_snake (lowered c) ≡ true
  unfolding lowered
  lowered_in_snake h =
      choose_case (λ x. in_snake x ≡ true) (is_upper c) (λ e. or_left (is_digit (c + 32) || eqb (c + 32) 95) (lower_of_upper c e)) (λ e. on e (alphanumeric_cases c h))
    where
      on : is_upper c ≡ false → (is_lower c ≡ true) ⊎ ((is_upper c ≡ true) ⊎ (is_digit c ≡ true)) → in_snake c ≡ true
      on e (inl p) = or_left (is_digit c || eqb c 95) p
      on e (inr (inl p)) = both_ways p e
      on e (inr (inr p)) = or_right (is_lower c) (or_left (eqb c 95) p)

  pub spelt_alphanumeric : (k f : Bool) → alphanumeric c ≡ true → alphanumeric (spelt k f c) ≡ true
  unfolding spelt
  spelt_alphanumeric k f h = choose_case (λ x. alphanumeric x ≡ true) (k && f) (λ e. raised_alphanumeric h) (λ e. lowered_alphanumeric h)

-- ---- all of a name
piece_alphanumeric : (q : State) (low : Bool) (c : ℕ) → every alphanumeric (piece true q (class c) low c) ≡ true
unfolding piece character separated choose every
piece_alphanumeric q low c =
    choose_case (λ l. every alphanumeric l ≡ true) (in_word (class c))
    (λ e. every_cons alphanumeric (spelt true (first q (class c) low) c) [] (spelt_alphanumeric c true (first q (class c) low) e) refl) (λ e. refl)

pub cased_alphanumeric : (q : State) (s : List ℕ) → every alphanumeric (cased true q s) ≡ true
unfolding cased every
cased_alphanumeric q [] = refl
cased_alphanumeric q (c ∷ s) =
    every_append alphanumeric (piece true q (class c) (lower_first s) c) (cased true (next q (class c)) s) (piece_alphanumeric q (lower_first s) c) (cased_alphanumeric (next q (class c)) s)

piece_in_snake : (q : State) (low : Bool) (c : ℕ) → every in_snake (piece false q (class c) low c) ≡ true
unfolding piece character spelt every choose between
piece_in_snake q low c =
    choose_case (λ l. every in_snake l ≡ true) (in_word (class c))
    (λ e. let k = every_cons in_snake (lowered c) [] (lowered_in_snake c e) refl in
    choose_case (λ l. every in_snake l ≡ true) (separated false q (first q (class c) low)) (λ _. every_cons in_snake 95 (lowered c ∷ []) refl k) (λ _. k))
    (λ e. refl)

pub cased_in_snake : (q : State) (s : List ℕ) → every in_snake (cased false q s) ≡ true
unfolding cased every
cased_in_snake q [] = refl
cased_in_snake q (c ∷ s) =
    every_append in_snake (piece false q (class c) (lower_first s) c) (cased false (next q (class c)) s) (piece_in_snake q (lower_first s) c) (cased_in_snake (next q (class c)) s)

-- the first character of a camel name is no lowercase letter
pub camel_first : (s : List ℕ) → is_lower (get_or (cased true Start s) 0 0) ≡ false
unfolding cased piece character separated spelt choose between
camel_first [] = refl
camel_first (c ∷ s) = on (class c) (camel_first s)
  where
    on : (k : Class) → is_lower (get_or (cased true Start s) 0 0) ≡ false → is_lower (get_or (piece true Start k (lower_first s) c ++ cased true (next Start k) s) 0 0) ≡ false
    on Other h = h
    on Digit h = raised_no_lower c
    on Lower h = raised_no_lower c
    on Upper h = raised_no_lower c

-- the first character of a name with a letter or digit is one
pub cased_first : (k : Bool) (s : List ℕ) → has_word s ≡ true → alphanumeric (get_or (cased k Start s) 0 0) ≡ true
unfolding cased piece character separated spelt has_word choose
cased_first k [] h = both_ways h refl
cased_first k (c ∷ s) h = on (class c) refl h (λ g. cased_first k s g)
  where
    begins : alphanumeric c ≡ true → (r : List ℕ) → alphanumeric (get_or (character k Start true c ++ r) 0 0) ≡ true
    begins e r = at k
      where
        at : (k : Bool) → alphanumeric (get_or (character k Start true c ++ r) 0 0) ≡ true
        at true = spelt_alphanumeric c true true e
        at false = spelt_alphanumeric c false true e

    on : (x : Class) → class c ≡ x → choose (in_word x) true (has_word s) ≡ true → (has_word s ≡ true → alphanumeric (get_or (cased k Start s) 0 0) ≡ true) → alphanumeric (get_or (piece k Start x (lower_first s) c ++ cased k (next Start x) s) 0 0) ≡ true
    on Other e h f = f h
    on Digit e h f = begins (ap in_word e) (cased k (next Start Digit) s)
    on Lower e h f = begins (ap in_word e) (cased k (next Start Lower) s)
    on Upper e h f = begins (ap in_word e) (cased k (next Start Upper) s)
