-- The names of a path, one after the other. Assumes nothing.
use mathlib.Core.Path.{◌≡◌, refl, sym, ap, ◌∙◌}
use mathlib.Core.Bool.{Bool, true, false, cond}
use mathlib.Core.List.{List, [], ◌∷◌, ◌++◌, map, append_assoc}
use Prim.Native.Nat.{ℕ, zero, suc, ◌+◌, ◌-◌, ◌≤◌, ◌<◌, min}
use native.Mathlib.Omega.{arith}
use lib.ListN.{length, take, drop, length-drop}
use Rattle.std.proofs.Common.{Bor, Option, Some, None, add-one}
use Rattle.std.specs.Str.{bytes_eq}
use Rattle.std.specs.Option.{MatchOption}
use Rattle.std.specs.List.{last_or, prefix_len, zip}
use Rattle.std.proofs.lemmas.List.Folds.{length-prefix_len}
use Rattle.base.specs.Choose.{choose}
use Rattle.base.specs.Bytes.{b, same}
use Rattle.base.proofs.BytesLaws.{same_bytes}
use Rattle.writer.specs.declared.text.Text.{Text}
use Rattle.writer.specs.Text.{each}
use Rattle.writer.specs.Writing.{◌▻◌}
use Rattle.writer.proofs.TextLaws.{appended}
use Rattle.ident.specs.Ident.{to_snake, to_upper_camel}
use Rattle.descriptor.specs.Descriptor.{Bytes}
use Rattle.split.specs.Split.{split}
use Rattle.split.proofs.SplitLaws.{split_is}
use Rattle.code_generator.specs.Piece.{through, way_text}
use Rattle.code_generator.specs.Resolve.{local_path, ident_path, ident_type, front, last_name, skip_common, way}
use Rattle.way.specs.Names.{common, downwards}

-- ---- a text has a name
pub some_name : (s : Bytes) → 0 < length (split (b ".") s)
some_name s = rw (split_is (b ".") s (omega arith)) (omega arith)

-- ---- the last name
abbrev pub text_of : Option (Bor Bytes) → Bytes
text_of None = []
text_of (Some x) = x.now

pub given : (o : Option (Bor Bytes)) (r : Bor Bytes) → ((x : Bor Bytes) → o ≡ Some x → r ≡ x) → (o ≡ None → r.now ≡ []) → (u : Option (Bor Bytes)) → o ≡ u → r.now ≡ text_of u
given None r f g u e = g refl ∙ ap text_of e
given (Some x) r f g u e = ap (λ (y : Bor Bytes). y.now) (f x refl) ∙ ap text_of e

pub last_of : (xs : List (Bor Bytes)) → text_of (last_or None xs) ≡ last_name (map (λ (x : Bor Bytes). x.now) xs)
last_of [] = refl
last_of (x ∷ xs) = on x xs
  where
    on : (x : Bor Bytes) (xs : List (Bor Bytes)) → text_of (last_or (Some x) xs) ≡ last_name (x.now ∷ map (λ (x : Bor Bytes). x.now) xs)
    on x [] = refl
    on x (y ∷ ys) = on y ys

-- ---- names in common
abbrev pub alike : Bytes × Bytes → Bool
alike p = bytes_eq p.0 p.1

passed : (xs ys : List Bytes) → prefix_len alike (zip xs ys) ≡ common xs ys
unfolding common choose
passed [] ys = refl
passed (x ∷ xs) [] = refl
passed (x ∷ xs) (y ∷ ys) =
    let e : prefix_len alike (zip xs ys) ≡ common xs ys = passed xs ys in
    rw (same_bytes x y)
    (elim (same x y) as (λ t. cond t (1 + prefix_len alike (zip xs ys)) 0 ≡ choose t (suc (common xs ys)) 0) [ true ↦ omega arith | false ↦ refl ])

pub common_is : (xs ys : List Bytes) → length (take (prefix_len alike (zip xs ys)) (zip xs ys)) ≡ common xs ys
common_is xs ys = length-prefix_len alike (zip xs ys) ∙ passed xs ys

pub common_most : (xs ys : List Bytes) → common xs ys ≤ length xs
unfolding common choose
common_most [] ys = omega arith
common_most (x ∷ xs) [] = omega arith
common_most (x ∷ xs) (y ∷ ys) =
    let h : common xs ys ≤ length xs = common_most xs ys in
    elim (same x y) as (λ t. choose t (suc (common xs ys)) 0 ≤ suc (length xs)) [ true ↦ omega arith | false ↦ omega arith ]

-- ---- the names behind some
behind : (i : ℕ) (xs : List Bytes) → drop (suc i) xs ≡ drop 1 (drop i xs)
behind zero xs = refl
behind (suc i) [] = refl
behind (suc i) (x ∷ xs) = behind i xs

pub next_behind : (r : Option (Bor Bytes)) (xs ys all : List Bytes) (i : ℕ) → MatchOption r ((xs ≡ []) × (ys ≡ [])) (λ x. xs ≡ x.now ∷ ys) → xs ≡ drop i all → ys ≡ drop (i + 1) all
next_behind None xs ys all i e h = rw (add-one, behind i all, ← h, e.0) e.1
next_behind (Some x) xs ys all i e h = rw (add-one, behind i all, ← h, e) refl

-- ---- what is skipped
skip_is : (xs ys : List Bytes) → skip_common xs ys ≡ (drop (common xs ys) xs, drop (common xs ys) ys)
unfolding skip_common common choose
skip_is [] ys = refl
skip_is (x ∷ xs) [] = refl
skip_is (x ∷ xs) (y ∷ ys) =
    elim (same x y) as (λ t. choose t (skip_common xs ys) (x ∷ xs, y ∷ ys) ≡ (drop (choose t (suc (common xs ys)) 0) (x ∷ xs), drop (choose t (suc (common xs ys)) 0) (y ∷ ys)))
    [ true ↦ skip_is xs ys | false ↦ refl ]

common_front : (xs ys : List Bytes) → common xs (front ys) ≡ min (common xs ys) (length ys - 1)
unfolding common choose
common_front [] ys = omega arith
common_front (x ∷ xs) [] = omega arith
common_front (x ∷ xs) (y ∷ []) = omega arith
common_front (x ∷ xs) (y ∷ (z ∷ ys)) =
    let h : common xs (front (z ∷ ys)) ≡ min (common xs (z ∷ ys)) (length (z ∷ ys) - 1) = common_front xs (z ∷ ys) in
    elim (same x y) as (λ t. choose t (suc (common xs (front (z ∷ ys)))) 0 ≡ min (choose t (suc (common xs (z ∷ ys))) 0) (length (y ∷ (z ∷ ys)) - 1))
    [ true ↦ omega arith | false ↦ omega arith ]

front_drop : (n : ℕ) (ys : List Bytes) → n < length ys → drop n (front ys) ≡ front (drop n ys)
front_drop zero ys h = refl
front_drop (suc n) [] h = absurd (omega arith)
front_drop (suc n) (y ∷ []) h = absurd (omega arith)
front_drop (suc n) (y ∷ (z ∷ ys)) h = front_drop n (z ∷ ys) (omega arith)

last_drop : (n : ℕ) (ys : List Bytes) → n < length ys → last_name ys ≡ last_name (drop n ys)
last_drop zero ys h = refl
last_drop (suc n) [] h = absurd (omega arith)
last_drop (suc n) (y ∷ []) h = absurd (omega arith)
last_drop (suc n) (y ∷ (z ∷ ys)) h = last_drop n (z ∷ ys) (omega arith)

-- ---- what is written for the names that are left
through_cons : (x y : Bytes) (ys : List Bytes) → downwards (x ∷ (y ∷ ys)) ≡ (to_snake x ++ b "::") ++ downwards (y ∷ ys)
unfolding downwards through
through_cons x y ys = append_assoc (to_snake x ++ b "::") (through (front (y ∷ ys))) (to_upper_camel (last_name (y ∷ ys)))

pub one_down : (x : Bytes) → downwards (x ∷ []) ≡ to_upper_camel x
unfolding downwards through
one_down x = refl

pub more_down : (t t₁ t₂ : Text) (x y : Bytes) (ys : List Bytes) → t₁ ≡ t ▻ to_snake x → t₂ ≡ t₁ ▻ b "::" → t₂ ▻ downwards (y ∷ ys) ≡ t ▻ downwards (x ∷ (y ∷ ys))
more_down t t₁ t₂ x y ys e f = appended t t₂ _ _ _ (appended t t₁ t₂ _ _ e f) refl ∙ ap (λ (p : List ℕ). t ▻ p) (sym (through_cons x y ys))

-- ---- the way
local_some : (s : Bytes) → (length s ≡ 0 → ⊥) → local_path s ≡ split (b ".") (drop 1 s)
unfolding local_path
local_some [] n = absurd (n refl)
local_some (c ∷ s) n = refl

local_none : (s : Bytes) → length s ≡ 0 → local_path s ≡ []
unfolding local_path
local_none [] n = refl
local_none (c ∷ s) n = absurd (omega arith)

module _ (scope ident i : Bytes) (f : i ≡ drop 1 ident) where
  -- the empty scope
  pub way_down : (t u : Text) (xs : List Bytes) → length scope ≡ 0 → xs ≡ split (b ".") i → u ≡ t ▻ downwards xs → u ≡ t ▻ way_text (way scope ident)
  unfolding way_text way ident_path ident_type downwards skip_common
  way_down t u xs z e q = rw (local_none scope z, ← f, ← e) q

  -- a scope with names: k names in common, n skipped
  module _ (s : Bytes) (k m n p : ℕ) (z : length scope ≡ 0 → ⊥) (g : s ≡ drop 1 scope) (ck : k ≡ common (split (b ".") s) (split (b ".") i)) (cm : m ≡ length (split (b ".") i)) (cn : n ≡ min k (m - 1)) where
    pub few_skipped : n ≤ length (split (b ".") s)
    few_skipped = let h : common (split (b ".") s) (split (b ".") i) ≤ length (split (b ".") s) = common_most (split (b ".") s) (split (b ".") i) in omega arith

    pub some_left : n < length (split (b ".") i)
    some_left = let l : 0 < length (split (b ".") i) = some_name i in omega arith

    up : way_text (way scope ident) ≡ each (λ _. b "super::") (length (split (b ".") s) - n) ++ downwards (drop n (split (b ".") i))
    unfolding way_text way ident_path ident_type downwards
    up =
        let c : common (split (b ".") s) (front (split (b ".") i)) ≡ n = rw (common_front (split (b ".") s) (split (b ".") i)) (omega arith) in
        rw (local_some scope z, ← g, ← f, skip_is (split (b ".") s) (front (split (b ".") i)), c, front_drop n (split (b ".") i) some_left, last_drop n (split (b ".") i) some_left, length-drop)
        (append_assoc (each (λ _. b "super::") (length (split (b ".") s) - n)) (through (front (drop n (split (b ".") i)))) (to_upper_camel (last_name (drop n (split (b ".") i)))))

    pub way_up : (t t₁ t₂ : Text) (xs : List Bytes) → p ≡ length (split (b ".") s) → t₁ ≡ t ▻ each (λ _. b "super::") (p - n) → xs ≡ drop n (split (b ".") i) → t₂ ≡ t₁ ▻ downwards xs → t₂ ≡ t ▻ way_text (way scope ident)
    way_up t t₁ t₂ xs cp e h q = appended t t₁ t₂ _ _ (rw cp at e) (rw h at q) ∙ ap (λ (l : List ℕ). t ▻ l) (sym up)
