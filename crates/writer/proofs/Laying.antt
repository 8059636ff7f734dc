-- Bytes laid over a list, and cut off at its end.
use Rattle.std.proofs.Common.{◌≡◌, ℕ, zero, suc, ◌+◌, ◌-◌, ◌^◌, ◌≤◌, ◌<◌, min, List, [], ◌∷◌, ◌++◌, length, set, take, drop, refl, sym, ap, ◌∙◌, arith, add-zero, add-suc, suc-add, length-set, length-take-le, take_all, take-append-drop}
use Rattle.std.proofs.lemmas.List.{take-set-le, drop-set-add}
use Rattle.std.proofs.Math.Decide.{dec_le}
use Rattle.std.proofs.lemmas.List.Edits.{sets, sets-eq}
use Rattle.std.proofs.lemmas.Slice.{put_mid-paste}
use Rattle.std.proofs.Math.Seq.{set_out, take-nil}
use borrow.Rule.Slice.PartMut.{put_mid}
use Rattle.writer.specs.Draft.{most}

pub sets-out : (t : List ℕ) (at : ℕ) (p : List ℕ) → length t ≤ at → sets t at p ≡ t
sets-out t at [] h = refl
sets-out t at (x ∷ p) h = rw (set_out t at x) (sets-out t (suc at) p (omega arith))

pub sets-append : (t : List ℕ) (at : ℕ) (p q : List ℕ) → sets (sets t at p) (at + length p) q ≡ sets t at (p ++ q)
sets-append t at [] q = rw add-zero
sets-append t at (x ∷ p) q = rw (add-suc, ← suc-add) (sets-append (set t at x) (suc at) p q)

-- what lies past the end may be left out
pub sets-take : (t p : List ℕ) (at m : ℕ) → length t ≤ at + m → sets t at (take m p) ≡ sets t at p
sets-take t [] at m h = ap (sets t at) (take-nil m)
sets-take t (x ∷ p) at zero h = sym (sets-out t at (x ∷ p) (omega arith))
sets-take t (x ∷ p) at (suc m) h = sets-take (set t at x) p (suc at) m (omega (arith, length-set t at x))

pub sets-beyond : (t p : List ℕ) (at m : ℕ) → length t ≤ at → t ≡ sets t at (take m p)
sets-beyond t p at m h = sym (sets-out t at (take m p) h)

-- a write of all of p
pub put_mid-whole : (t s p : List ℕ) (at end : ℕ) → s ≡ p → end ≡ min (at + length p) most → end ≤ length t → length t < 2 ^ 63 → put_mid at (end - at) t s ≡ sets t at (take (most - at) p)
put_mid-whole t s p at end d e h b =
    put_mid-paste at (end - at) t s p (length p) d (omega arith) refl
    ∙ rw (take_all (length p) p (omega arith)) (sym (sets-take t p at (most - at) (omega arith) ∙ sets-eq p t at (omega arith)))

-- a write of as much of p as there is room for
pub put_mid-front : (t s p : List ℕ) (at : ℕ) → s ≡ take (length t - at) p → at < length t → length t ≤ at + length p → length t < 2 ^ 63 → put_mid at (length t - at) t s ≡ sets t at (take (most - at) p)
put_mid-front t s p at d l h b =
    let n : length (take (length t - at) p) ≡ length t - at = length-take-le (length t - at) p (omega arith) in
    put_mid-paste at (length t - at) t s (take (length t - at) p) (length (take (length t - at) p)) d n refl
    ∙ rw (take_all (length (take (length t - at) p)) (take (length t - at) p) (omega arith))
    (sym (sets-eq (take (length t - at) p) t at (omega arith)) ∙ sets-take t p at (length t - at) (omega arith) ∙ sym (sets-take t p at (most - at) (omega arith)))

-- a part of t that is lent
sets-drop : (t : List ℕ) (p j : ℕ) (q : List ℕ) → take p t ++ sets (drop p t) j q ≡ sets t (p + j) q
sets-drop t p j [] = take-append-drop p t
sets-drop t p j (x ∷ q) =
    ap (λ (l : List ℕ). l ++ sets (set (drop p t) j x) (suc j) q) (sym (take-set-le p t (p + j) x (omega arith)))
    ∙ ap (λ (l : List ℕ). take p (set t (p + j) x) ++ sets l (suc j) q) (sym (drop-set-add p t j x))
    ∙ sets-drop (set t (p + j) x) p (suc j) q ∙ ap (λ (k : ℕ). sets (set t (p + j) x) k q) (add-suc p j)

on-part : (t p : List ℕ) (a at : ℕ) → length t < 2 ^ 63 → at ≡ min a (length t) → Dec (a ≤ length t) → sets t (at + 0) p ≡ sets t a p
on-part t p a at b e (yes h) = ap (λ (k : ℕ). sets t k p) (omega arith)
on-part t p a at b e (no h) = sets-out t (at + 0) p (omega arith) ∙ sym (sets-out t a p (omega arith))

pub sets-part : (t p : List ℕ) (a at : ℕ) → length t < 2 ^ 63 → at ≡ min a (length t) → take at t ++ sets (drop at t) 0 (take most p) ≡ sets t a (take (most - a) p)
sets-part t p a at b e =
    sets-drop t at 0 (take most p) ∙ sets-take t p (at + 0) most (omega arith) ∙ on-part t p a at b e (dec_le a (length t))
    ∙ sym (sets-take t p a (most - a) (omega arith))
