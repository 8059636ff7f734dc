-- A text in a buffer, whole or not at all. Assumes nothing.
use Rattle.std.specs.Prelude.{ℕ, ◌^◌, ◌≤◌, ◌<◌, min, Bool, true, false, ◌≡◌, List, ◌++◌, leb, length, drop, Result, Ok, Err}
use Rattle.std.proofs.Common.{arith, zero-add, ap, ◌∙◌, le-leb}
use Rattle.std.proofs.lemmas.List.Edits.{sets-eq}
use Rattle.writer.specs.Text.{pick}
use Rattle.writer.specs.Wrote.{over, after, Wrote}

-- what a text that is asked for comes to: it is written, and is so long; or it needs so much room
abbrev pub Answer : Type 0
Answer = Result ℕ ℕ

abbrev pub pick_answer : Bool → Answer → Answer → Answer
pick_answer true a b = a
pick_answer false a b = b

-- where p has room in t, t' begins with p and goes on as t does, and r has the length of p;
-- else t' is t, and r has the room that p needs (2 ^ 63 where it needs more)
pub record Rendered (t p t' : List ℕ) (r : Answer) : Type 0 where
  pub text : t' ≡ pick (leb (length p) (length t)) (p ++ drop (length p) t) t
  pub answer : r ≡ pick_answer (leb (length p) (length t)) (Ok (length p)) (Err (min (length p) (2 ^ 63)))

pub needs_room : {p s s' : List ℕ} {n : ℕ} → Wrote s 0 p s' n → n ≡ min (length p) (2 ^ 63)
unfolding after
needs_room {p} w = w.next ∙ omega arith

whole : (t p : List ℕ) → length p ≤ length t → over t 0 p ≡ p ++ drop (length p) t
unfolding over
whole t p h = sets-eq p t 0 (omega arith) ∙ ap (λ (k : ℕ). p ++ drop k t) (zero-add (length p))

pub rendered : {t t₁ t' p s s' : List ℕ} {m n : ℕ} → t₁ ≡ t → Wrote s 0 p s' m → m ≤ length t₁ → Wrote t₁ 0 p t' n → Rendered t p t' (Ok n)
rendered {t} {t₁} {t'} {p} {s} {s'} {m} {n} e w h v =
    let g : m ≡ min (length p) (2 ^ 63) = needs_room w in
    let i : n ≡ min (length p) (2 ^ 63) = needs_room v in
    let r : length t₁ < 2 ^ 63 = v.room in
    let q : length t₁ ≡ length t = ap length e in
    let k : length p ≤ length t = omega arith in
    let j : n ≡ length p = omega arith in
    record {
      text = rw (le-leb (length p) (length t) k) (v.text ∙ ap (λ (l : List ℕ). over l 0 p) e ∙ whole t p k);
      answer = rw (le-leb (length p) (length t) k) (ap (λ (k : ℕ). Ok k) j);
    }
