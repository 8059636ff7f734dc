-- What is written behind what is written; and what a text says that was lent a buffer, or a part of one.
use Rattle.std.proofs.Common.{◌≡◌, ℕ, ◌+◌, ◌-◌, ◌^◌, ◌≤◌, ◌<◌, min, max, Bool, true, false, List, [], ◌++◌, length, take, drop, refl, sym, ap, ◌∙◌, arith, zero-add, length-append, take_all}
use Rattle.std.proofs.lemmas.List.Edits.{sets, sets-eq}
use Rattle.std.proofs.lemmas.List.{take-append-le}
use Rattle.std.proofs.Math.Decide.{dec_le}
use Rattle.std.proofs.Math.Seq.{take-nil, take-append-add}
use borrow.Rule.Slice.PartMut.{mid_of, put_mid}
use Rattle.writer.specs.Text.{pick}
use Rattle.writer.specs.Wrote.{over, after, Wrote, part_all, put_all}
use Rattle.writer.specs.Draft.{Draft, draft, most, longer, extended, extended_if, skipped, Filled}
use Rattle.writer.specs.declared.text.Text.{Text}
use Rattle.writer.specs.Writing.{◌▻◌, put_where, draft_of, with_draft, IsPlace}
use Rattle.writer.proofs.Laying.{sets-append, sets-take, sets-part}

-- a draft by its parts
pub stored : (d : Draft) (p v : List ℕ) (n : ℕ) → v ≡ sets d.buffer d.length (take (most - d.length) p) → n ≡ longer d.length (length p) → draft v n ≡ extended d p
unfolding extended
stored d p v n e f = rw (e, f)

-- a draft as long as texts are counted to stays as it is
pub full : (d : Draft) (p : List ℕ) → most ≤ d.length → extended d p ≡ d
full d p h =
    let z : 0 ≡ most - d.length = omega arith in
    sym (stored d p d.buffer d.length (ap (λ (k : ℕ). sets d.buffer d.length (take k p)) z) (omega arith))

pub extended-nil : (d : Draft) → d ≡ extended d []
extended-nil d = stored d [] d.buffer d.length (sym (ap (sets d.buffer d.length) (take-nil (most - d.length)))) (omega arith)

laid-append : (b p q : List ℕ) (a : ℕ) → Dec (length p ≤ most - a) → sets (sets b a (take (most - a) p)) (longer a (length p)) (take (most - longer a (length p)) q) ≡ sets b a (take (most - a) (p ++ q))
laid-append b p q a (yes h) =
    let m : longer a (length p) ≡ a + length p = omega arith in
    let r : most - a ≡ length p + (most - (a + length p)) = omega arith in
    rw (m, take_all (most - a) p h, sets-append, r, take-append-add) refl
laid-append b p q a (no h) =
    let r : most - longer a (length p) ≡ 0 = omega arith in
    rw (r, take-append-le (most - a) p q (omega arith)) refl

pub extended-append : (d : Draft) (p q : List ℕ) → extended (extended d p) q ≡ extended d (p ++ q)
unfolding extended
extended-append d p q =
    stored d (p ++ q) _ _ (laid-append d.buffer p q d.length (dec_le (length p) (most - d.length))) (omega (arith, length-append p q))

pub extended_if-pick : (c : Bool) (d : Draft) (p : List ℕ) → extended_if c d p ≡ extended d (pick c p [])
extended_if-pick true d p = refl
extended_if-pick false d p = extended-nil d

-- ---- the same of texts
pub put-nothing : (t : Text) → t ▻ [] ≡ t
put-nothing t = ap (with_draft t) (sym (extended-nil (draft_of t)))

pub put-append : (t : Text) (p q : List ℕ) → t ▻ p ▻ q ≡ t ▻ (p ++ q)
put-append t p q = ap (with_draft t) (extended-append (draft_of t) p q)

-- two writes, one after the other
pub appended : (t t₁ t₂ : Text) (p q : List ℕ) → t₁ ≡ t ▻ p → t₂ ≡ t₁ ▻ q → t₂ ≡ t ▻ (p ++ q)
appended t t₁ t₂ p q e f = f ∙ ap (λ (u : Text). u ▻ q) e ∙ put-append t p q

pub put_where-pick : (c : Bool) (t : Text) (p : List ℕ) → put_where c t p ≡ t ▻ pick c p []
put_where-pick c t p = ap (with_draft t) (extended_if-pick c (draft_of t) p)

-- ---- what a text says that was lent a buffer
-- its length
pub measured : {old p new : List ℕ} {n : ℕ} → Filled old p new n → n ≡ min (length p) most
unfolding extended
measured {old} {p} {new} {n} w = ap (λ (d : Draft). d.length) w.is ∙ omega arith

-- a text that has room stands there whole
pub wholly : {old p new : List ℕ} {n : ℕ} → Filled old p new n → length p ≤ length old → length old < 2 ^ 63 → new ≡ p ++ drop (length p) old
unfolding extended
wholly {old} {p} {new} {n} w h b =
    ap (λ (d : Draft). d.buffer) w.is ∙ sets-take old p 0 most (omega arith) ∙ sets-eq p old 0 (omega arith) ∙ rw zero-add refl

-- the text over what stood there
pub overlaid : {old p new : List ℕ} {n : ℕ} → Filled old p new n → length old < 2 ^ 63 → new ≡ over old 0 p
unfolding extended over
overlaid {old} {p} w b = ap (λ (d : Draft). d.buffer) w.is ∙ sets-take old p 0 most (omega arith)

-- a text that began in the buffer
pub filled_from : (p : List ℕ) (t u : Text) {old new : List ℕ} → new ≡ u.buffer.now → u ≡ t ▻ p → draft_of t ≡ draft old 0 → Filled old p new u.length
filled_from p t u n e s = record { is = ap (λ (l : List ℕ). draft l u.length) n ∙ ap draft_of e ∙ ap (λ (d : Draft). extended d p) s }

-- a text that was lent the rest of the buffer
pub lent_draft : (d : Draft) (p s : List ℕ) (at n : ℕ) → length d.buffer < 2 ^ 63 → at ≡ min d.length (length d.buffer) → draft s n ≡ extended (draft (mid_of at (length d.buffer - at) d.buffer) 0) p → skipped (draft (put_mid at (length d.buffer - at) d.buffer s) d.length) n ≡ extended d p
unfolding extended
lent_draft d p s at n b e f =
    let m : n ≡ min (length p) most = ap (λ (u : Draft). u.length) f ∙ omega arith in
    let h : s ≡ sets (drop at d.buffer) 0 (take most p) = ap (λ (u : Draft). u.buffer) f ∙ ap (λ (r : List ℕ). sets r 0 (take most p)) (part_all d.buffer at) in
    stored d p _ _ (put_all d.buffer at s ∙ ap (λ (r : List ℕ). take at d.buffer ++ r) h ∙ sets-part d.buffer p d.length at b e) (omega arith)

pub lent : (t u : Text) (p s : List ℕ) (at n : ℕ) → IsPlace t at → Filled (mid_of at (length t.buffer.now - at) t.buffer.now) p s n → u ≡ with_draft t (skipped (draft (put_mid at (length t.buffer.now - at) t.buffer.now s) t.length) n) → u ≡ t ▻ p
lent t u p s at n i w f = f ∙ ap (with_draft t) (lent_draft (draft_of t) p s at n i.room i.place w.is)

-- ---- a text that was begun at a place, as the writers over a place say it
placed_draft : (t p t' : List ℕ) (at n r : ℕ) → length t < 2 ^ 63 → draft t' n ≡ extended (draft t at) p → r ≡ min n (max at (2 ^ 63)) → Wrote t at p t' r
unfolding extended over after
placed_draft t p t' at n r h e f =
    record {
      room = h;
      text = ap (λ (d : Draft). d.buffer) e ∙ sets-take t p at (most - at) (omega arith);
      next = f ∙ ap (λ (d : Draft). min d.length (max at (2 ^ 63))) e ∙ omega arith;
    }

pub placed : {t : Text} {p t' : List ℕ} {r : ℕ} (u : Text) → length t.buffer.now < 2 ^ 63 → t' ≡ u.buffer.now → u ≡ t ▻ p → r ≡ min u.length (max t.length (2 ^ 63)) → Wrote t.buffer.now t.length p t' r
placed {t} {p} {t'} {r} u h k e f =
    placed_draft t.buffer.now p t' t.length u.length r h (ap (λ (l : List ℕ). draft l u.length) k ∙ ap draft_of e) f
