-- What one pass says of a row is the rule by counts. Assumes nothing.
use mathlib.Core.Path.{◌≡◌, refl, sym, ap, ◌∙◌}
use mathlib.Core.Bool.{Bool, true, false, ◌&&◌, and-false}
use mathlib.Core.List.{List, [], ◌∷◌}
use Prim.Native.Nat.{ℕ, ◌+◌, ◌≤◌}
use native.Mathlib.Omega.{arith}
use lib.Dec.{eqb, ltb}
use borrow.Author.Tests.{eq-eqb, ne_eqb, eqb-true, eqb-false, lt-ltb}
use Rattle.base.specs.Choose.{choose}
use Rattle.base.specs.Lists.{count}
use Rattle.map_entries.specs.Named.{Use, vote, joined, said, mapping_in}

pub by_eq {ℓ} : {A : Type ℓ} (j i : ℕ) → (j ≡ i → A) → ((j ≡ i → ⊥) → A) → A
by_eq {A = A} j i f g = elim (eqb j i) as (λ t. eqb j i ≡ t → A) [ true ↦ (λ e. f (eqb-true j i e)) | false ↦ (λ e. g (eqb-false j i e)) ] refl

joined_none : (v : ℕ) → joined 0 v ≡ v
unfolding joined choose
joined_none v = refl

joined_same : (w : ℕ) → joined w w ≡ w
unfolding joined choose
joined_same w = by_eq w 0 (λ e. rw (eq-eqb w 0 e) (sym refl)) (λ e. rw (ne_eqb w 0 e, eq-eqb w w refl))

joined_other : (w v : ℕ) → (w ≡ 0 → ⊥) → (w ≡ v → ⊥) → joined w v ≡ 1
unfolding joined choose
joined_other w v a b = rw (ne_eqb w 0 a, ne_eqb w v b)

-- the three cases of what was said before, of which k is the one looked for
record Tells (w k r : ℕ) (m n : ℕ) : Type 0 where
  none : w ≡ 0 → eqb r k ≡ (ltb 0 m && eqb m n)
  held : w ≡ k → eqb r k ≡ eqb m n
  other : (w ≡ 0 → ⊥) → (w ≡ k → ⊥) → eqb r k ≡ false
  fewer : m ≤ n

module _ (p : Use → Bool) (number : ℕ) where
  abbrev k : ℕ
  k = number + 2

  -- a field that says k
  tells_own : (w r m n : ℕ) → Tells (joined w k) k r m n → Tells w k r (1 + m) (1 + n)
  tells_own w r m n t = let f = t.fewer in
      record {
        none = λ e. t.held (rw e (joined_none k)) ∙ rw (lt-ltb 0 (1 + m) (omega arith)) (step m n);
        held = λ e. t.held (rw e (joined_same k)) ∙ step m n;
        other = λ a b. t.other (λ z. let q = joined_other w k a b in omega arith) (λ z. let q = joined_other w k a b in omega arith);
        fewer = omega arith;
      }
    where
      step : (m n : ℕ) → eqb m n ≡ eqb (1 + m) (1 + n)
      step m n = by_eq m n (λ e. eq-eqb m n e ∙ sym (eq-eqb (1 + m) (1 + n) (ap (λ (x : ℕ). 1 + x) e))) (λ e. ne_eqb m n e ∙ sym (ne_eqb (1 + m) (1 + n) (λ q. e (omega arith))))

  -- a field that says something else
  tells_else : (w v r m n : ℕ) → (v ≡ 0 → ⊥) → (v ≡ k → ⊥) → Tells (joined w v) k r m n → Tells w k r m (1 + n)
  tells_else w v r m n z d t = let f = t.fewer in
      let no : eqb m (1 + n) ≡ false = ne_eqb m (1 + n) (λ e. omega arith) in
      record {
        none = λ e. t.other (λ q. z (sym (rw e (joined_none v)) ∙ q)) (λ q. d (sym (rw e (joined_none v)) ∙ q)) ∙ sym (rw no (and-false (ltb 0 m)));
        held = λ e. let j = joined_other w v (λ q. omega arith) (λ q. d (sym q ∙ e)) in t.other (λ q. omega arith) (λ q. omega arith) ∙ sym no;
        other = λ a b. by_eq w v
            (λ q. let j : joined w v ≡ w = ap (joined w) (sym q) ∙ joined_same w in t.other (λ x. a (sym j ∙ x)) (λ x. b (sym j ∙ x)))
            (λ q. let j = joined_other w v a q in t.other (λ x. omega arith) (λ x. omega arith));
        fewer = omega arith;
      }

  abbrev M : List Use → ℕ
  M = count (mapping_in number p)

  tells : (us : List Use) (w : ℕ) → Tells w k (said p us w) (M us) (count p us)
  unfolding said count choose vote
  tells [] w =
      record {
        none = λ e. rw e (ne_eqb 0 k (λ q. omega arith));
        held = λ e. eq-eqb w k e;
        other = λ a b. ne_eqb w k b;
        fewer = omega arith;
      }
  tells (u ∷ us) w = by (p u) u.mapping refl (λ x. tells us x)
    where
      by : (b m : Bool) → u.mapping ≡ m → ((x : ℕ) → Tells x k (said p us x) (M us) (count p us))
          → Tells w k (said p us (choose b (joined w (vote u.number m)) w)) (choose (b && (m && eqb u.number number)) (1 + M us) (M us)) (choose b (1 + count p us) (count p us))
      by false m e ih = ih w
      by true false e ih = tells_else w 1 _ _ _ (λ q. omega arith) (λ q. omega arith) (ih (joined w 1))
      by true true e ih =
          by_eq u.number number
          (λ q. rw (q, eq-eqb number number refl) (tells_own w _ _ _ (ih (joined w k))))
          (λ q. rw (ne_eqb u.number number q) (tells_else w (u.number + 2) _ _ _ (λ x. omega arith) (λ x. q (omega arith)) (ih (joined w (u.number + 2)))))

  -- the rule by counts: at least one repeated message field of the message with the number, and no other field, names it
  pub said_rule : (us : List Use) → eqb (said p us 0) (number + 2) ≡ (ltb 0 (count (mapping_in number p) us) && eqb (count (mapping_in number p) us) (count p us))
  said_rule us = (tells us 0).none refl
