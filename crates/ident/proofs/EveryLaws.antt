-- Laws of a test of every byte, and of a test of every word of a table. Assumes nothing.
use mathlib.Core.Path.{◌≡◌, refl, sym, subst}
use mathlib.Core.Bool.{Bool, true, false, ◌&&◌}
use mathlib.Core.Logic.{◌⊎◌, inl, inr}
use mathlib.Core.List.{List, [], ◌∷◌, ◌++◌}
use Prim.Native.Nat.{ℕ}
use Rattle.base.specs.Choose.{choose}
use Rattle.base.specs.Bytes.{same, same_sound}
use Rattle.base.specs.Tests.{bool_cases, both_ways, and_left, and_right, or_cases}
use Rattle.ident.specs.Name.{every}
use Rattle.ident.specs.Ident.{among}

module _ (p : ℕ → Bool) where
  pub every_cons : (c : ℕ) (s : List ℕ) → p c ≡ true → every p s ≡ true → every p (c ∷ s) ≡ true
  unfolding every choose
  every_cons c s h k = rw h k

  pub every_head : (c : ℕ) (s : List ℕ) → every p (c ∷ s) ≡ true → p c ≡ true
  unfolding every choose
  every_head c s h = on (p c) refl h
    where
      on : (t : Bool) → p c ≡ t → choose t (every p s) false ≡ true → p c ≡ true
      on true e h = e
      on false e h = both_ways h refl

  pub every_tail : (c : ℕ) (s : List ℕ) → every p (c ∷ s) ≡ true → every p s ≡ true
  unfolding every choose
  every_tail c s h = on (p c) h
    where
      on : (t : Bool) → choose t (every p s) false ≡ true → every p s ≡ true
      on true h = h
      on false h = both_ways h refl

  pub every_append : (x y : List ℕ) → every p x ≡ true → every p y ≡ true → every p (x ++ y) ≡ true
  every_append [] y h k = k
  every_append (c ∷ x) y h k = every_cons c (x ++ y) (every_head c x h) (every_append x y (every_tail c x h) k)

pub every_also : (p q : ℕ → Bool) → ((c : ℕ) → p c ≡ true → q c ≡ true) → (s : List ℕ) → every p s ≡ true → every q s ≡ true
unfolding every
every_also p q f [] h = refl
every_also p q f (c ∷ s) h = every_cons q c s (f c (every_head p c s h)) (every_also p q f s (every_tail p c s h))

-- ---- tables
-- does a test hold of every word?
unfoldable pub all : (List ℕ → Bool) → List (List ℕ) → Bool
all p [] = true
all p (w ∷ ws) = p w && all p ws

-- what holds of every word holds of a word of the table
pub all_among : (p : List ℕ → Bool) (x : List ℕ) (ws : List (List ℕ)) → all p ws ≡ true → among x ws ≡ true → p x ≡ true
unfolding all among
all_among p x [] h k = both_ways k refl
all_among p x (w ∷ ws) h k =
    on (λ e. all_among p x ws (and_right (p w) (all p ws) h) e) (or_cases (same x w) (among x ws) k)
  where
    on : (among x ws ≡ true → p x ≡ true) → (same x w ≡ true) ⊎ (among x ws ≡ true) → p x ≡ true
    on f (inl e) = subst (λ (y : List ℕ). p y ≡ true) (sym (same_sound x w e)) (and_left (p w) (all p ws) h)
    on f (inr e) = f e

-- what doesn't have a property of every word is none of them
pub none_among : (p : List ℕ → Bool) (x : List ℕ) (ws : List (List ℕ)) → all p ws ≡ true → p x ≡ false → among x ws ≡ false
none_among p x ws h k = on (bool_cases (among x ws))
  where
    on : (among x ws ≡ true) ⊎ (among x ws ≡ false) → among x ws ≡ false
    on (inl e) = both_ways (all_among p x ws h e) k
    on (inr e) = e
