-- What `find` and `find_map` leave of an iterator, by a closure that its calls leave as it was; what `filter_map` passes over keeps. Assumes nothing.
use Rattle.std.proofs.Common.{◌≡◌, refl, sym, ap, subst, ◌∙◌, ℕ, suc, ◌+◌, ◌≤◌, ◌<◌, Bool, true, false, List, [], ◌∷◌, arith}
use Rattle.std.specs.Prelude.{Option, Some, None, MatchOption, IfSome, IsTrue, slice_get}
use Rattle.std.specs.Iterator.{Yields, FindsItem, FindsMapped}
use Rattle.std.specs.Iterator.Runs.{Run, YieldsRun, SomeRun, AllItemsGive, IsFirstToGive}
use Rattle.std.specs.Fn.{Called, CalledAt}
use Rattle.std.specs.List.{FoldsTo}
use denote.Ref.{Bor}
use denote.Param.Members.{Mut}
use Rattle.base.specs.Choose.{choose}

-- an answer, if there is one, in front of the rest
unfoldable pub before : {A : Type 0} → Option A → List A → List A
before None xs = xs
before (Some x) xs = x ∷ xs

-- steps over items for which the call gives no answer (No): what each of them keeps, all keep
pub kept_over : {S A F : Type 0} (steps : S → Option A → S → Type 0) (No : F → A → F → Type 0) (Holds : S → F → Type 0)
    → ((s t : S) (x : A) (p q : F) → steps s (Some x) t → No p x q → Holds s p → Holds t q)
    → (xs : List A) (s t : S) (p q : F) → Yields steps s xs t → FoldsTo No p xs q → Holds s p → Holds t q
kept_over {S = S} steps No Holds keeps [] s t p q y c h = subst (λ (u : S). Holds u q) y (subst (Holds s) c h)
kept_over steps No Holds keeps (x ∷ xs) s t p q y c h = kept_over steps No Holds keeps xs y.0 t c.0 q y.2 c.2 (keeps s y.0 x p c.0 y.1 c.1 h)

-- left: what a state has left
module _ {S A B F : Type 0} (steps : S → Option A → S → Type 0) (left : S → List B) (f : F) where
  -- No: a call that does not answer
  module _ (No : F → A → F → Type 0) (stays : (x : A) (q : F) → No f x q → q ≡ f) (skips : (s t : S) (x : A) (q : F) → steps s (Some x) t → No f x q → left s ≡ left t) where
    passed : (xs : List A) (s t : S) (j : F) → Yields steps s xs t → FoldsTo No f xs j → (left s ≡ left t) × (j ≡ f)
    passed xs s t j y c =
        kept_over steps No (λ (u : S) (p : F). (left s ≡ left u) × (p ≡ f))
        (λ u v x p q step call h. let is : No f x q = subst (λ (k : F). No k x q) h.1 call in (h.0 ∙ skips u v x q step is, stays x q is))
        xs s t f j y c (refl, refl)

  module _ (done : (s t : S) → steps s None t → (left s ≡ []) × (left t ≡ [])) where
    module _ (g : Mut F (Bor A × Unit {0}) Bool) (test : A → Bool) (seen : A → B) (pure : (x : A) (b : Bool) (q : F) → CalledAt g f x b q → (q ≡ f) × (b ≡ test x)) (turn : (s t : S) (x : A) → steps s (Some x) t → left s ≡ choose (test x) (seen x ∷ left t) (left t)) where
      tested : (s t : S) (x : A) (b : Bool) (q : F) → steps s (Some x) t → CalledAt g f x b q → left s ≡ choose b (seen x ∷ left t) (left t)
      tested s t x b q step call = turn s t x step ∙ ap (λ (c : Bool). choose c (seen x ∷ left t) (left t)) (sym (pure x b q call).1)

      fails : (s t : S) (x : A) (q : F) → steps s (Some x) t → CalledAt g f x false q → left s ≡ left t
      unfolding choose
      fails s t x q step call = tested s t x false q step call

      pub found : (s u : S) (r : Option A) → FindsItem steps g s f r u → (all : List B) → left s ≡ all → MatchOption r ((all ≡ []) × (left u ≡ [])) (λ x. all ≡ seen x ∷ left u)
      unfolding choose
      found s u None d all is =
          let p = passed (λ k x q. CalledAt g k x false q) (λ x q c. (pure x false q c).0) fails d.0 s d.2.0 d.1 d.2.1 d.3 in
          let e = done d.2.0 u d.2.2 in
          (sym is ∙ p.0 ∙ e.0, e.1)
      found s u (Some x) d all is =
          let p = passed (λ k x q. CalledAt g k x false q) (λ x q c. (pure x false q c).0) fails d.0 s d.2.0 d.1 d.2.1 d.3 in
          sym is ∙ p.0 ∙ tested d.2.0 u x true d.4.0 d.2.2 (subst (λ k. CalledAt g k x true d.4.0) p.1 d.4.1)

    module _ (g : Mut F (A × Unit {0}) (Option B)) (answer : A → Option B) (pure : (x : A) (r : Option B) (q : F) → Called g f (x, tt) r q → (q ≡ f) × (r ≡ answer x)) (turn : (s t : S) (x : A) → steps s (Some x) t → left s ≡ before (answer x) (left t)) where
      answered : (s t : S) (x : A) (r : Option B) (q : F) → steps s (Some x) t → Called g f (x, tt) r q → left s ≡ before r (left t)
      answered s t x r q step call = turn s t x step ∙ ap (λ (o : Option B). before o (left t)) (sym (pure x r q call).1)

      silent : (s t : S) (x : A) (q : F) → steps s (Some x) t → Called g f (x, tt) None q → left s ≡ left t
      unfolding before
      silent s t x q step call = answered s t x None q step call

      at_end : (t u : S) (j : F) (o : Option A) (r : Option B) → j ≡ f → steps t o u → MatchOption o (r ≡ None) (λ x. (h : F) × Called g j (x, tt) r h) → left t ≡ before r (left u)
      unfolding before
      at_end t u j None r is step e = let h = done t u step in h.0 ∙ sym (ap (λ (o : Option B). before o (left u)) e ∙ h.1)
      at_end t u j (Some x) r is step e = answered t u x r e.0 step (subst (λ k. Called g k (x, tt) r e.0) is e.1)

      before_it : (s u : S) (r : Option B) → FindsMapped steps g s f r u → left s ≡ before r (left u)
      before_it s u r d =
          let p = passed (λ k x q. Called g k (x, tt) None q) (λ x q c. (pure x None q c).0) silent d.0 s d.3.0 d.2 d.3.1 d.4 in
          p.0 ∙ at_end d.3.0 u d.2 d.1 r p.1 d.3.2 d.5

      -- where each call answers nothing
      none_of : (xs : List A) (s t u : S) → Yields steps s xs t → steps t None u → ((k : ℕ) → IfSome (slice_get xs k) (λ x. Called g f (x, tt) None f)) → left s ≡ []
      none_of [] s t u y e h = ap left y ∙ (done t u e).0
      none_of (x ∷ xs) s t u y e h = silent s y.0 x f y.1 (h 0) ∙ none_of xs y.0 t u y.2 e (λ k. h (suc k))

      none_at : (s : S) (p : Run steps) → p.from ≡ s → p.whole ≡ true → AllItemsGive p g f None → left s ≡ []
      unfolding YieldsRun
      none_at s p from whole each =
          let all = each (λ a r q c. (pure a.0 r q c).0) in
          let took = p.gave.0 in
          let end = took.2 whole in
          sym (ap left from) ∙ none_of p.items p.from took.0 end.0 took.1 end.1 (λ k. subst (λ o. IfSome o (λ x. Called g f (x, tt) None f)) (p.gave.1 k) (all k))

      pub found_mapped : (s u : S) (r : Option B) → FindsMapped steps g s f r u
          → SomeRun steps s (λ p. MatchOption r (IsTrue p.whole × AllItemsGive p g f None) (λ y. (i : ℕ) × (i < p.len) × (p.len ≡ i + 1) × IsFirstToGive p g f (Some y) None i))
          → (all : List B) → left s ≡ all → MatchOption r ((all ≡ []) × (left u ≡ [])) (λ x. all ≡ x ∷ left u)
      unfolding before
      found_mapped s u None d runs all is = let e = none_at s runs.0 runs.1 runs.2.0 runs.2.1 in (sym is ∙ e, sym (before_it s u None d) ∙ e)
      found_mapped s u (Some x) d runs all is = sym is ∙ before_it s u (Some x) d

-- ---- what no step makes more is no more afterwards
module _ {S A : Type 0} (steps : S → Option A → S → Type 0) (size : S → ℕ) (less : (s t : S) (r : Option A) → steps s r t → size t ≤ size s) where
  none_more : (xs : List A) (s t : S) → Yields steps s xs t → size t ≤ size s
  none_more [] s t y = subst (λ k. size k ≤ size s) y (omega arith)
  none_more (x ∷ xs) s t y = let one = less s y.0 (Some x) y.1 in let rest = none_more xs y.0 t y.2 in omega arith

  pub found_no_more : {F : Type 0} (f : F) (g : Mut F (Bor A × Unit {0}) Bool) (s u : S) (r : Option A) → FindsItem steps g s f r u → size u ≤ size s
  found_no_more f g s u r d = let all = none_more d.0 s d.2.0 d.2.1 in let last = less d.2.0 u r d.2.2 in omega arith

  pub mapped_no_more : {F B : Type 0} (f : F) (g : Mut F (A × Unit {0}) (Option B)) (s u : S) (r : Option B) → FindsMapped steps g s f r u → size u ≤ size s
  mapped_no_more f g s u r d = let all = none_more d.0 s d.3.0 d.3.1 in let last = less d.3.0 u d.1 d.3.2 in omega arith
