-- Lists: what holds of all elements or of one, how many pass a test, how many stand before the first that fails it. Assumes nothing.
use Rattle.std.specs.Prelude.{ℕ, suc, ◌+◌, ◌≤◌, min, Bool, true, false, ◌&&◌, ◌||◌, ◌≡◌, refl, length}
use Rattle.std.proofs.Common.{sym, ap, ◌∙◌, arith, length-append}
use Rattle.std.specs.List.{list_any, list_all}
use mathlib.Core.List.Memᴰ
use mathlib.Core.List.{List, [], ◌∷◌, ◌++◌, map, append_assoc, Memᴰ}
use Rattle.std.proofs.Math.Logic.{⊎_elim}
use Rattle.std.proofs.lemmas.List.Folds.{list_any-append, list_all-append}
use Rattle.std.proofs.Math.Nat.{zero-min, min-zero}
use Rattle.base.specs.Choose.{choose}
use Rattle.base.specs.Tests.{bool_cases, both_ways, and_left, and_right, or_false_left, or_false_right}

unfoldable pub all : {A : Type 0} → (A → Bool) → List A → Bool
all = list_all

unfoldable pub any : {A : Type 0} → (A → Bool) → List A → Bool
any = list_any

unfoldable pub count {ℓ} : {A : Type ℓ} → (A → Bool) → List A → ℕ
count p [] = 0
count p (x ∷ xs) = choose (p x) (1 + count p xs) (count p xs)

-- the index of the first that fails, and the length where none does
unfoldable pub first_failing {ℓ} : {A : Type ℓ} → (A → Bool) → List A → ℕ
first_failing p [] = 0
first_failing p (x ∷ xs) = choose (p x) (1 + first_failing p xs) 0

abbrev pub is_empty {ℓ} : {A : Type ℓ} → List A → Bool
is_empty [] = true
is_empty (x ∷ xs) = false

-- one list of what each has, in order
unfoldable pub all_of {ℓ κ} : {A : Type ℓ} {B : Type κ} → (A → List B) → List A → List B
all_of f [] = []
all_of f (x ∷ xs) = f x ++ all_of f xs

-- what holds of every element
abbrev pub Every {ℓ} : {A : Type ℓ} → (A → Type 0) → List A → Type 0
Every P [] = Unit
Every P (x ∷ xs) = P x × Every P xs

-- ---- laws

pub all_map : {A B : Type 0} (p : B → Bool) (g : A → B) (xs : List A) → all p (map g xs) ≡ all (λ (x : A). p (g x)) xs
unfolding all
all_map p g [] = refl
all_map p g (x ∷ xs) = ap (λ (u : Bool). p (g x) && u) (all_map p g xs)

pub all_of_append {ℓ κ} : {A : Type ℓ} {B : Type κ} (g : A → List B) (xs ys : List A) → all_of g (xs ++ ys) ≡ all_of g xs ++ all_of g ys
unfolding all_of
all_of_append g [] ys = refl
all_of_append g (x ∷ xs) ys = ap (λ (l : List _). g x ++ l) (all_of_append g xs ys) ∙ sym (append_assoc (g x) (all_of g xs) (all_of g ys))

pub all_of_length : {A B : Type 0} (g : A → List B) (xs ys : List A) → length (all_of g (xs ++ ys)) ≡ length (all_of g xs) + length (all_of g ys)
all_of_length g xs ys = ap length (all_of_append g xs ys) ∙ length-append (all_of g xs) (all_of g ys)

pub map_length {ℓ κ} : {A : Type ℓ} {B : Type κ} (g : A → B) (xs : List A) → length (map g xs) ≡ length xs
map_length g [] = refl
map_length g (x ∷ xs) = ap suc (map_length g xs)

pub empty_map {ℓ κ} : {A : Type ℓ} {B : Type κ} (g : A → B) (xs : List A) → is_empty (map g xs) ≡ is_empty xs
empty_map g [] = refl
empty_map g (x ∷ xs) = refl

pub first_map {ℓ κ} : {A : Type ℓ} {B : Type κ} (p : B → Bool) (g : A → B) (xs : List A) → first_failing p (map g xs) ≡ first_failing (λ (x : A). p (g x)) xs
unfolding first_failing
first_map p g [] = refl
first_map p g (x ∷ xs) = ap (λ (n : ℕ). choose (p (g x)) (1 + n) 0) (first_map p g xs)

-- the first that fails one of two tests
pub first_both {ℓ} : {A : Type ℓ} (p q : A → Bool) (xs : List A) → first_failing (λ (x : A). p x && q x) xs ≡ min (first_failing p xs) (first_failing q xs)
unfolding first_failing choose
first_both p q [] = refl
first_both p q (x ∷ xs) = go (p x) (q x) (first_failing p xs) (first_failing q xs) (first_both p q xs)
  where
    go : (a c : Bool) {n : ℕ} (i j : ℕ) → n ≡ min i j → choose (a && c) (1 + n) 0 ≡ min (choose a (1 + i) 0) (choose c (1 + j) 0)
    go true true i j e = omega arith
    go true false i j e = sym (min-zero (1 + i))
    go false true i j e = sym (zero-min (1 + j))
    go false false i j e = refl

-- none fails where the first that does stands behind all of them
pub none_fails : {A : Type 0} (p : A → Bool) (xs : List A) → length xs ≤ first_failing p xs → all p xs ≡ true
unfolding first_failing all choose
none_fails p [] h = refl
none_fails p (x ∷ xs) h = go (p x) h (none_fails p xs)
  where
    go : (t : Bool) → suc (length xs) ≤ choose t (1 + first_failing p xs) 0 → (length xs ≤ first_failing p xs → all p xs ≡ true) → (t && all p xs) ≡ true
    go true h others = others (omega arith)
    go false h others = absurd (omega arith)

pub all_every : {A : Type 0} (P : A → Type 0) (p : A → Bool) → ((x : A) → p x ≡ true → P x) → (xs : List A) → all p xs ≡ true → Every P xs
unfolding all
all_every P p f [] h = tt
all_every P p f (x ∷ xs) h = (f x (and_left (p x) (all p xs) h), all_every P p f xs (and_right (p x) (all p xs) h))

module _ {ℓ} {A : Type ℓ} (P : A → Type 0) where
  pub every_append : (xs ys : List A) → Every P xs → Every P ys → Every P (xs ++ ys)
  every_append [] ys p q = q
  every_append (x ∷ xs) ys p q = (p.0, every_append xs ys p.1 q)

  pub every_left : (xs ys : List A) → Every P (xs ++ ys) → Every P xs
  every_left [] ys p = tt
  every_left (x ∷ xs) ys p = (p.0, every_left xs ys p.1)

  pub every_right : (xs ys : List A) → Every P (xs ++ ys) → Every P ys
  every_right [] ys p = p
  every_right (x ∷ xs) ys p = every_right xs ys p.1

  pub every_of {κ} : {B : Type κ} (f : B → List A) (xs : List B) → Every (λ (x : B). Every P (f x)) xs → Every P (all_of f xs)
  unfolding all_of
  every_of f [] p = tt
  every_of f (x ∷ xs) p = every_append (f x) (all_of f xs) p.0 (every_of f xs p.1)

pub every_to {ℓ} : {A : Type ℓ} {P Q : A → Type 0} → ((x : A) → P x → Q x) → (xs : List A) → Every P xs → Every Q xs
every_to f [] p = tt
every_to f (x ∷ xs) p = (f x p.0, every_to f xs p.1)

module _ {A : Type 0} (p : A → Bool) where
  pub any_append : (xs ys : List A) → any p (xs ++ ys) ≡ (any p xs || any p ys)
  unfolding any
  any_append xs ys = list_any-append p xs ys

  pub all_append : (xs ys : List A) → all p (xs ++ ys) ≡ (all p xs && all p ys)
  unfolding all
  all_append xs ys = list_all-append p xs ys

  pub any_left : (xs ys : List A) → any p (xs ++ ys) ≡ false → any p xs ≡ false
  any_left xs ys h = or_false_left (any p xs) (any p ys) (sym (any_append xs ys) ∙ h)

  pub any_right : (xs ys : List A) → any p (xs ++ ys) ≡ false → any p ys ≡ false
  any_right xs ys h = or_false_right (any p xs) (any p ys) (sym (any_append xs ys) ∙ h)

-- ---- counts

pub count_append {ℓ} : {A : Type ℓ} (p : A → Bool) (xs ys : List A) → count p (xs ++ ys) ≡ count p xs + count p ys
unfolding count choose
count_append p [] ys = omega arith
count_append p (x ∷ xs) ys = by (p x) (count_append p xs ys)
  where
    by : (t : Bool) → count p (xs ++ ys) ≡ count p xs + count p ys → choose t (1 + count p (xs ++ ys)) (count p (xs ++ ys)) ≡ choose t (1 + count p xs) (count p xs) + count p ys
    by true e = omega arith
    by false e = e

-- no more pass the stronger test
pub count_less : {A : Type 0} (p q : A → Bool) → ((x : A) → p x ≡ true → q x ≡ true) → (xs : List A) → count p xs ≤ count q xs
unfolding count choose
count_less p q within [] = omega arith
count_less p q within (x ∷ xs) = go (p x) (q x) (within x) (count_less p q within xs)
  where
    go : (a c : Bool) → (a ≡ true → c ≡ true) → count p xs ≤ count q xs → choose a (1 + count p xs) (count p xs) ≤ choose c (1 + count q xs) (count q xs)
    go true true h l = omega arith
    go true false h l = both_ways (h refl) refl
    go false true h l = omega arith
    go false false h l = l

pub some_count : {A : Type 0} (p : A → Bool) (xs : List A) (x : A) → Memᴰ x xs → p x ≡ true → 1 ≤ count p xs
unfolding count choose
some_count p [] x m is = absurd (Memᴰ.not-nil m)
some_count p (y ∷ ys) x m is =
    ⊎_elim (λ e. let passes : p y ≡ true = ap p (sym e) ∙ is in rw passes (omega arith))
    (λ w.
    let on = some_count p ys x w is in
    ⊎_elim (λ h. rw h (omega arith)) (λ h. rw h on) (bool_cases (p y)))
    (Memᴰ.cases_cons m)
