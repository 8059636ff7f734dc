-- What `find` leaves of the rows: those behind the one that it found. Assumes nothing.
use Rattle.std.proofs.Common.{◌≡◌, refl, sym, ap, ◌∙◌, ◌<◌, ◌^◌, arith, Bool, true, false, not, ◌&&◌, eqb, true≢false, is_some, List, [], ◌∷◌, length, ℕ, Option, Some, None, MatchOption, Bor, eqb-true}
use Rattle.std.specs.Iterator.{YieldsFirstBy, YieldsFirstRef, FindsItem, MakesProgress, item_count}
use Rattle.std.specs.Fn.{CalledAt}
use denote.Param.Members.{Mut}
use Rattle.base.specs.Choose.{choose}
use Rattle.base.proofs.FindLaws.{found}
use Rattle.options.specs.Rows.{row_seen, is_of}
use Rattle.options.specs.Settings.{Setting}
use Rattle.options.specs.declared.rows.Row.{Row}
use Rattle.path.specs.PathMap.{get}
use Rattle.path.specs.Worth.{weighed, worth_in}
use Rattle.path.proofs.MatchLaws.{get_none, get_hit, get_miss, get_other}

-- a row of the kind whose path is a form
abbrev pub matches : ℕ → List ℕ → Setting → Bool
matches kind path r = is_of kind r && not (eqb (worth_in (weighed true path) r.path) 0)

abbrev Steps : List Setting → Option Row → List Setting → Type 0
Steps = YieldsFirstBy row_seen (λ (rest : List Setting). rest)

module _ (kind : ℕ) (path : List ℕ) (h : length path < 2 ^ 63) where
  -- one row on
  turn : (r : Setting) (rs : List Setting) (t u : Bool) → is_of kind r ≡ t → eqb (worth_in (weighed true path) r.path) 0 ≡ u → get kind path (r ∷ rs) ≡ choose (t && not u) (r.value ∷ get kind path rs) (get kind path rs)
  unfolding choose
  turn r rs false u k e = get_other kind path r rs k
  turn r rs true true k e = get_miss kind path r rs _ h k refl (eqb-true _ 0 e)
  turn r rs true false k e = get_hit kind path r rs _ h k refl (λ z. true≢false (sym (ap (λ n. eqb n 0) z) ∙ e))

  pub next_value : {F : Type 0} (f : F) (g : Mut F (Bor Row × Unit {0}) Bool) → ((x : Row) (b : Bool) (q : F) → CalledAt g f x b q → (q ≡ f) × (b ≡ matches kind path (row_seen x)))
      → (s u : List Setting) (r : Option Row) → FindsItem Steps g s f r u → MatchOption r ((get kind path s ≡ []) × (get kind path u ≡ [])) (λ x. get kind path s ≡ (row_seen x).value ∷ get kind path u)
  next_value f g pure s u r d =
      found Steps (get kind path) f (λ s t e. (ap (get kind path) e.0 ∙ get_none kind path, ap (get kind path) e.1 ∙ get_none kind path)) g
      (λ x. matches kind path (row_seen x)) (λ x. (row_seen x).value) pure (λ s t x e. ap (get kind path) e ∙ turn (row_seen x) t _ _ refl refl) s u r d _ refl

-- the value that is given, where a row was found and u is left; all: what was there
pub value_given : (o : Option Row) (all u : List (List ℕ)) → MatchOption o ((all ≡ []) × (u ≡ [])) (λ x. all ≡ (row_seen x).value ∷ u)
    → (r : Option (Bor (List ℕ))) → is_some r ≡ is_some o → ((z : Row) (b : Bor (List ℕ)) → o ≡ Some z → r ≡ Some b → b.now ≡ z.value.now) → YieldsFirstRef (λ rest. rest) all r u
value_given None all u h None v m = h
value_given None all u h (Some b) v m = absurd (true≢false v)
value_given (Some x) all u h None v m = absurd (true≢false (sym v))
value_given (Some x) all u h (Some b) v m = h ∙ ap (λ l. l ∷ u) (sym (m x b refl refl))

-- a step that gives the first of the list goes on
pub goes_on : (can : List (List ℕ) → Type 0) → ((s : List (List ℕ)) → can s) → (r : Option (Bor (List ℕ))) (s t : List (List ℕ)) → YieldsFirstRef (λ rest. rest) s r t → MakesProgress can (item_count (λ rest. rest)) s r t
goes_on can free None s t h = record { on = λ _. tt; keeps = tt; rests = λ _. tt }
goes_on can free (Some x) s t h = record { on = λ _. (free t, tt, omega (arith, ap length h)); keeps = free t; rests = λ _. tt }
