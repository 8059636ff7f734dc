-- A text in a buffer, whole or not at all: refusal 10. Assumes nothing.
use mathlib.Core.Path.{◌≡◌, refl, sym, ap, ◌∙◌, subst}
use mathlib.Core.Bool.{◌&&◌}
use mathlib.Core.List.{List, ◌++◌}
use Prim.Native.Nat.{ℕ, ◌-◌, ◌^◌, ◌≤◌, ◌<◌, min}
use native.Mathlib.Decide.{dec_le}
use native.Mathlib.Omega.{arith}
use lib.Dec.{leb}
use lib.ListN.{length, take, drop}
use borrow.Author.Tests.{le-leb, lt-leb}
use Rattle.base.specs.Choose.{choose}
use Rattle.std.proofs.Math.Seq.{take-append_seam}
use native.Mathlib.Nat.{sub-zero}
use Rattle.writer.specs.Draft.{Filled}
use Rattle.writer.specs.Wrote.{Wrote, after}
use Rattle.writer.specs.Answer.{needs_room, rendered}
use Rattle.writer.proofs.TextLaws.{measured, overlaid}
use Rattle.std.specs.Prelude.{Result, Ok, Err}
use Rattle.base.specs.declared.refusal.Refusal.{Refusal}
use Rattle.base.specs.declared.refusal.Refusal.TheVariants.{TextLength}
use Rattle.calls.specs.TextCall.{max_text, by_room}
use Rattle.text_call.specs.Answer.{Answers, Whole}

-- a refusal changes no byte
pub refuses : (r : Refusal) (x : Result ℕ Refusal) (p t : List ℕ) → Err r ≡ x → Answers x p t t (Err r)
refuses r x p t e = record { answer = e; left = rw (← e) refl }

fits_both : (n a b : ℕ) → (leb n a && leb n b) ≡ leb n (min a b)
fits_both n a b = on (dec_le n a) (dec_le n b)
  where
    on : Dec (n ≤ a) → Dec (n ≤ b) → (leb n a && leb n b) ≡ leb n (min a b)
    on (yes h) (yes k) = rw (le-leb n a h, le-leb n b k, le-leb n (min a b) (omega arith))
    on (yes h) (no k) = rw (le-leb n a h, lt-leb n b (omega arith), lt-leb n (min a b) (omega arith))
    on (no h) k = rw (lt-leb n a (omega arith), lt-leb n (min a b) (omega arith))

module _ (t p : List ℕ) where
  by_least : by_room (length t) (length p) ≡ choose (leb (length p) (min (length t) max_text)) (Ok (length p)) (Err (TextLength (length p)))
  unfolding by_room
  by_least = rw (fits_both (length p) (length t) max_text)

  module _ (room : ℕ) (least : room ≡ min (length t) max_text) where
    pub no_room : room < length p → Whole p t t (Err (TextLength (length p)))
    unfolding choose
    no_room h = refuses (TextLength (length p)) _ p t (sym (by_least ∙ rw (lt-leb (length p) (min (length t) max_text) (omega arith)) refl))

    module _ (fits : length p ≤ room) where
      given_is : by_room (length t) (length p) ≡ Ok (length p)
      unfolding choose
      given_is = by_least ∙ rw (le-leb (length p) (min (length t) max_text) (omega arith)) refl

      pub written : {t' : List ℕ} {m : ℕ} → t' ≡ p ++ drop (length p) t → m ≡ length p → Whole p t t' (Ok m)
      written text_is size = record { answer = ap (λ (n : ℕ). Ok n) size ∙ sym given_is; left = rw given_is text_is }

  pub too_long : {n : ℕ} → (n ≡ length p) × (max_text < n) → Whole p t t (Err (TextLength n))
  too_long h = let e = h.0 in subst (λ (k : ℕ). Whole p t t (Err (TextLength k))) (sym e) (no_room _ refl (let b = h.1 in omega arith))

  -- a way to it that changed nothing first
  pub after_no_change : {t₁ t' : List ℕ} {r : Result ℕ Refusal} → t₁ ≡ t → Whole p t₁ t' r → Whole p t t' r
  after_no_change {t' = t'} {r} same w = subst (λ (u : List ℕ). Whole p u t' r) same w

  -- the text was made in a buffer s of its own, where n is its length
  module _ (short : length p < 2 ^ 63) {s s' : List ℕ} {n : ℕ} (w : Filled s p s' n) where
    pub made : n ≡ length p
    made = let m = measured w in omega arith

    wrote : length s < 2 ^ 63 → Wrote s 0 p s' n
    unfolding after
    wrote b = record { room = b; text = overlaid w b; next = let e = made in omega arith }

    -- whole, since there is room for it
    stands : length s < 2 ^ 63 → n ≤ length s → (n ≡ length p) × (s' ≡ p ++ drop (length p) s)
    stands b h =
        let u = wrote b in
        let e : n ≡ length p = let m = needs_room u in omega arith in
        (e, rw (le-leb (length p) (length s) (omega arith)) at (rendered refl u h u).text)

    pub from_part : (size : ℕ) → length s ≡ size → size < 2 ^ 63 → n ≤ size → {t' : List ℕ} {r : Result ℕ Refusal} → Whole (take (n - 0) (drop 0 s')) t t' r → Whole p t t' r
    from_part size l b h {t'} {r} v =
        let whole = stands (omega arith) (omega arith) in
        let front : take (n - 0) (drop 0 s') ≡ p = rw (sub-zero, whole.0, whole.1) (take-append_seam p (drop (length p) s)) in
        subst (λ (q : List ℕ). Whole q t t' r) front v
