-- Walks along a list of links, whatever a link and a node are: as a relation and as a test, and that they agree. Assumes nothing.
use Rattle.std.specs.Prelude.{◌≡◌, Bool, true, ◌&&◌, ◌||◌, ◌⊎◌}
use Rattle.std.proofs.Math.Path.{refl, ap, subst}
use Rattle.std.proofs.Common.{sym, ◌∙◌, inl, inr}
use Rattle.std.proofs.Math.Logic.{⊎_elim}
use mathlib.Core.List.Memᴰ
use mathlib.Core.List.{List, [], ◌∷◌, Memᴰ}
use Rattle.base.specs.Tests.{and_left, and_right, and_both, or_left, or_right, or_cases}

module _ {L N : Type 0} (from to : L → N) where
  -- from a to b by the list's links; document 01's "walk" is another one, through texts (walks_end)
  pub data Walk (ls : List L) : N → N → Type 0 where
    stay : {a : N} → Walk ls a a
    go : {a b : N} (l : L) → Memᴰ l ls → from l ≡ a → Walk ls (to l) b → Walk ls a b

  -- is there a walk from a to b, where `same` tests nodes? One without the first link; or one to its start, and one from its end
  unfoldable pub walks : (N → N → Bool) → List L → N → N → Bool
  walks same [] a b = same a b
  walks same (l ∷ ls) a b = walks same ls a b || (walks same ls a (from l) && walks same ls (to l) b)

module _ {L N : Type 0} {from to : L → N} where
  -- the links that a walk takes, in order
  unfoldable pub taken : {ls : List L} {a b : N} → Walk from to ls a b → List L
  taken stay = []
  taken (go l m e p) = l ∷ taken p

  module _ {ls : List L} where
    pub join : {a b c : N} → Walk from to ls a b → Walk from to ls b c → Walk from to ls a c
    join stay q = q
    join (go l m e p) q = go l m e (join p q)

    -- a link that a walk takes: its start is on the way, and from its end it goes on
    pub around : {a b : N} (w : Walk from to ls a b) (l : L) → Memᴰ l (taken w) → Walk from to ls a (from l) × Walk from to ls (to l) b
    unfolding taken
    around stay l m = absurd (Memᴰ.not-nil m)
    around {a} {b} (go k at e p) l m =
        ⊎_elim
        (λ is.
        (subst (λ (x : N). Walk from to ls a x) (sym e ∙ ap from (sym is)) stay, subst (λ (x : L). Walk from to ls (to x) b) (sym is) p))
        (λ h. let r = around p l h in (go k at e r.0, r.1))
        (Memᴰ.cases_cons m)

    later : (l : L) {a b : N} → Walk from to ls a b → Walk from to (l ∷ ls) a b
    later l stay = stay
    later l (go k m e p) = go k (Memᴰ.tail m) e (later l p)

    -- without the first link, or by it
    split : {l : L} {a b : N} → Walk from to (l ∷ ls) a b → Walk from to ls a b ⊎ (Walk from to ls a (from l) × Walk from to ls (to l) b)
    split stay = inl stay
    split {l} {a} {b} (go k m e p) =
        ⊎_elim
        (λ is.
        let start : Walk from to ls a (from l) = subst (λ (x : N). Walk from to ls a x) (sym e ∙ ap from is) stay in
        ⊎_elim (λ w. inr (start, subst (λ (x : L). Walk from to ls (to x) b) is w)) (λ w. inr (start, w.1)) (split p))
        (λ in_rest. ⊎_elim (λ w. inl (go k in_rest e w)) (λ w. inr (go k in_rest e w.0, w.1)) (split p))
        (Memᴰ.cases_cons m)

  none : {a b : N} → Walk from to [] a b → a ≡ b
  none stay = refl
  none (go l m e p) = absurd (Memᴰ.not-nil m)

module _ {L N : Type 0} (from to : L → N) (same : N → N → Bool) where
  pub walks_sound : ((a b : N) → same a b ≡ true → a ≡ b) → (ls : List L) (a b : N) → walks from to same ls a b ≡ true → Walk from to ls a b
  unfolding walks
  walks_sound equal [] a b e = subst (λ (x : N). Walk from to [] a x) (equal a b e) stay
  walks_sound equal (l ∷ ls) a b e =
      let x = walks from to same ls a (from l) in
      let y = walks from to same ls (to l) b in
      ⊎_elim (λ w. later l (walks_sound equal ls a b w))
      (λ w.
      join (later l (walks_sound equal ls a (from l) (and_left x y w)))
      (go l (Memᴰ.head refl) refl (later l (walks_sound equal ls (to l) b (and_right x y w)))))
      (or_cases (walks from to same ls a b) (x && y) e)

  pub walks_complete : ((a b : N) → a ≡ b → same a b ≡ true) → (ls : List L) (a b : N) → Walk from to ls a b → walks from to same ls a b ≡ true
  unfolding walks
  walks_complete equal [] a b p = equal a b (none p)
  walks_complete equal (l ∷ ls) a b p =
      ⊎_elim (λ w. or_left _ (walks_complete equal ls a b w))
      (λ w. or_right (walks from to same ls a b) (and_both (walks_complete equal ls a (from l) w.0) (walks_complete equal ls (to l) b w.1)))
      (split p)
