-- What a writer does: it lays a text over a slice from a place, as far as the slice goes, and answers the place after the text. Assumes nothing.
use Rattle.std.specs.Prelude.{ℕ, suc, ◌+◌, ◌-◌, ◌^◌, ◌≤◌, ◌<◌, min, ◌≡◌, refl, List, [], ◌∷◌, ◌++◌, length, set, take, drop, get_or}
use Rattle.std.proofs.Common.{arith, add-suc, suc-add, add-zero, add-one, sym, ap, subst, ◌∙◌, append-nil, length-append, length-drop, take-append-drop, drop_of_length-le, take-suc, length-take-le, take_all}
use Rattle.std.proofs.Math.Decide.{dec_le}
use Rattle.std.proofs.lemmas.List.Edits.{sets}
use Rattle.std.proofs.Math.Seq.{length-sets, set_out}
use Rattle.std.proofs.lemmas.List.{take-set-le, drop-set-add}
use borrow.Rule.Slice.PartMut.{mid_of, put_mid}

-- t with p laid over it from `at`, cut off at the end of t
unfoldable pub over : List ℕ → ℕ → List ℕ → List ℕ
over t at p = sets t at p

-- the place n bytes after `at`; a count that has come to 2 ^ 63, which no slice reaches, stays there
unfoldable pub after : ℕ → ℕ → ℕ
after at n = at + min n (2 ^ 63 - at)

-- p was written into t from `at`: t is now t', and r is the place after p
pub record Wrote (t : List ℕ) (at : ℕ) (p : List ℕ) (t' : List ℕ) (r : ℕ) : Type 0 where
  pub room : length t < 2 ^ 63
  pub text : t' ≡ over t at p
  pub next : r ≡ after at (length p)

-- ---- laws of `over`
pub over_length : (t : List ℕ) (at : ℕ) (p : List ℕ) → length (over t at p) ≡ length t
unfolding over
over_length t at p = length-sets t at p

pub over_nil : (at : ℕ) (p : List ℕ) → over [] at p ≡ []
unfolding over
over_nil at [] = refl
over_nil at (x ∷ p) = over_nil (suc at) p

pub over_out : (t : List ℕ) (at : ℕ) (p : List ℕ) → length t ≤ at → over t at p ≡ t
unfolding over
over_out t at [] h = refl
over_out t at (x ∷ p) h = rw (set_out t at x) (over_out t (suc at) p (omega arith))

pub over_append : (t : List ℕ) (at : ℕ) (p q : List ℕ) → over (over t at p) (at + length p) q ≡ over t at (p ++ q)
unfolding over
over_append t at [] q = rw add-zero
over_append t at (x ∷ p) q = rw (add-suc, ← suc-add) (over_append (set t at x) (suc at) p q)

-- where p reaches the end of t, what follows p is cut off
pub over_cut : (t : List ℕ) (at : ℕ) (p q : List ℕ) → length t ≤ at + length p → over t at (p ++ q) ≡ over t at p
over_cut t at p q h =
    sym (over_append t at p q) ∙ over_out (over t at p) (at + length p) q (rw over_length h)

-- one byte more of s
pub over_more : (t t' s : List ℕ) (at j : ℕ) → t' ≡ over t at (take j s) → j < length s → set t' (at + j) (get_or s j 0) ≡ over t at (take (j + 1) s)
unfolding over
over_more t t' s at j e h =
    ap (λ (l : List ℕ). set l (at + j) (get_or s j 0)) e
    ∙ ap (λ (k : ℕ). over (over t at (take j s)) (at + k) (get_or s j 0 ∷ [])) (sym (length-take-le j s (omega arith)))
    ∙ over_append t at (take j s) (get_or s j 0 ∷ [])
    ∙ ap (over t at) (sym (take-suc s j 0 h) ∙ ap (λ (k : ℕ). take k s) (sym (add-one j)))

-- as much of s as there is room for
pub over_front : (t t' s : List ℕ) (at m : ℕ) → t' ≡ over t at (take m s) → m ≤ length s → length t ≤ at + m → t' ≡ over t at s
over_front t t' s at m e h k =
    e ∙ sym (over_cut t at (take m s) (drop m s) (rw (length-take-le m s h) k)) ∙ ap (over t at) (take-append-drop m s)

over_after : (t : List ℕ) (at : ℕ) (p q : List ℕ) → length t < 2 ^ 63 → Dec (length p ≤ 2 ^ 63 - at) → over (over t at p) (after at (length p)) q ≡ over t at (p ++ q)
unfolding after
over_after t at p q h (yes d) =
    ap (λ (k : ℕ). over (over t at p) k q) (omega arith) ∙ over_append t at p q
over_after t at p q h (no d) =
    over_out (over t at p) (after at (length p)) q (rw over_length (omega arith)) ∙ sym (over_cut t at p q (omega arith))

-- ---- laws of `Wrote`: nothing, one text after another, the same text by another name
pub none : {t : List ℕ} {at : ℕ} → length t < 2 ^ 63 → Wrote t at [] t at
unfolding over after
none {t} {at} h = record { room = h; text = refl; next = omega arith }

after_sum : (at m n : ℕ) → after (after at m) n ≡ after at (m + n)
unfolding after
after_sum at m n = omega arith

infixl 60 ◌►◌
pub ◌►◌ : {t t₁ t₂ p q : List ℕ} {at r₁ r₂ : ℕ} → Wrote t at p t₁ r₁ → Wrote t₁ r₁ q t₂ r₂ → Wrote t at (p ++ q) t₂ r₂
◌►◌ {t} {t₁} {t₂} {p} {q} {at} {r₁} {r₂} v w =
    record {
      room = v.room;
      text =
          w.text ∙ ap (λ (l : List ℕ). over l r₁ q) v.text ∙ ap (λ (k : ℕ). over (over t at p) k q) v.next
          ∙ over_after t at p q v.room (dec_le (length p) (2 ^ 63 - at));
      next =
          w.next ∙ ap (λ (k : ℕ). after k (length q)) v.next ∙ after_sum at (length p) (length q)
          ∙ ap (λ (k : ℕ). after at k) (sym (length-append p q));
    }

pub named : {t t' p q : List ℕ} {at r : ℕ} → p ≡ q → Wrote t at p t' r → Wrote t at q t' r
named {t} {t'} {p} {q} {at} {r} e w = subst (λ (l : List ℕ). Wrote t at l t' r) e w

pub kept : {t t' p : List ℕ} {at r : ℕ} → Wrote t at p t' r → length t' ≡ length t
kept {t} {t'} {p} {at} w = ap length w.text ∙ over_length t at p

pub still : {t t' p : List ℕ} {at r : ℕ} → Wrote t at p t' r → length t' < 2 ^ 63
still w = rw (kept w) w.room

-- ---- a part of t, from the place on, that another writer is lent
over_part : (t : List ℕ) (p j : ℕ) (q : List ℕ) → take p t ++ over (drop p t) j q ≡ over t (p + j) q
unfolding over
over_part t p j [] = take-append-drop p t
over_part t p j (x ∷ q) =
    ap (λ (l : List ℕ). l ++ over (set (drop p t) j x) (suc j) q) (sym (take-set-le p t (p + j) x (omega arith)))
    ∙ ap (λ (l : List ℕ). take p (set t (p + j) x) ++ over l (suc j) q) (sym (drop-set-add p t j x))
    ∙ over_part (set t (p + j) x) p (suc j) q ∙ ap (λ (k : ℕ). over (set t (p + j) x) k q) (add-suc p j)

over_from : (t : List ℕ) (a p : ℕ) (q : List ℕ) → p ≡ min a (length t) → Dec (a ≤ length t) → over t (p + 0) q ≡ over t a q
over_from t a p q e (yes h) = ap (λ (k : ℕ). over t k q) (omega arith)
over_from t a p q e (no h) = over_out t (p + 0) q (omega arith) ∙ sym (over_out t a q (omega arith))

pub part_all : (t : List ℕ) (p : ℕ) → mid_of p (length t - p) t ≡ drop p t
part_all t p = take_all (length t - p) (drop p t) (rw length-drop (omega arith))

pub put_all : (t : List ℕ) (p : ℕ) (s : List ℕ) → put_mid p (length t - p) t s ≡ take p t ++ s
put_all t p s =
    ap (λ (l : List ℕ). take p t ++ (s ++ l)) (drop_of_length-le (drop p t) {i = length t - p} (rw length-drop (omega arith)))
    ∙ ap (λ (l : List ℕ). take p t ++ l) (append-nil s)

after_part : (a n : ℕ) → after a (after 0 n) ≡ after a n
unfolding after
after_part a n = omega arith

pub lent : (t : List ℕ) (a p : ℕ) {q s : List ℕ} {n r : ℕ} → length t < 2 ^ 63 → p ≡ min a (length t) → Wrote (mid_of p (length t - p) t) 0 q s n → r ≡ after a n → Wrote t a q (put_mid p (length t - p) t s) r
lent t a p {q} {s} {n} {r} h e w f =
    record {
      room = h;
      text =
          put_all t p s ∙ ap (λ (l : List ℕ). take p t ++ l) w.text
          ∙ ap (λ (l : List ℕ). take p t ++ over l 0 q) (part_all t p) ∙ over_part t p 0 q
          ∙ over_from t a p q e (dec_le a (length t));
      next = f ∙ ap (after a) w.next ∙ after_part a (length q);
    }
