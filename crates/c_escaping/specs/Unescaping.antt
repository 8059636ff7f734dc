-- The pass over a default that is unescaped: each step leads on and gives a byte. Assumes nothing.
use Rattle.std.specs.Prelude.{◌≡◌, List, [], ◌∷◌, Some, None, ℕ, zero, suc, ◌+◌, ◌≤◌, ◌<◌, leb, ltb, eqb, length, get_or}
use Rattle.std.proofs.Common.{sym, ap, ◌∙◌}
use native.Mathlib.Omega.{arith}
use borrow.Author.Tests.{ltb-true}
use Rattle.base.specs.Choose.{choose_case}
use Rattle.base.specs.Each.{All}
use Rattle.base.specs.Steps.{item, ended, broken, ◌then◌, items, Forward, run_end, run_fault, run_item, run_ind}
use Rattle.literal.specs.Reading.{Byte as IsByte}
use Rattle.c_escaping.specs.Unescape.{Unescaped, Byte, Fault, byte_of, letter, is_octal, octal_at, is_hex, hex_at, escape_at, unescape_at, step_of, unescape_from, unescaped}

-- ---- what a step gives
-- x fits a byte if all of s do, and the next place lies behind p
pub record Good (s : List ℕ) (p x next : ℕ) : Type 0 where
  pub small : All IsByte s → x < 256
  pub forward : p < next

abbrev Fine : List ℕ → ℕ → Unescaped → Type 0
Fine s p None = Unit
Fine s p (Some y) = Good s p y.0 y.1

byte_in : (s : List ℕ) (p : ℕ) → All IsByte s → get_or s p 0 < 256
byte_in [] p h = omega arith
byte_in (x ∷ s) zero h = h.0
byte_in (x ∷ s) (suc p) h = byte_in s p h.1

module _ (s : List ℕ) (p : ℕ) where
  fit : (v next : ℕ) → p < next → Fine s p (byte_of v next)
  unfolding byte_of
  fit v next h = choose_case (Fine s p) (ltb v 256) (λ e. record { small = λ _. ltb-true v 256 e; forward = h }) (λ _. tt)

  numeral : (v next : ℕ) → v < 256 → p < next → Fine s p (Byte v next)
  numeral v next g h = record { small = λ _. g; forward = h }

  letter_fine : (c next : ℕ) → p < next → Fine s p (letter c next)
  unfolding letter
  letter_fine c next h =
      choose_case (Fine s p) (eqb c 97) (λ _. numeral 0x07 next (omega arith) h)
      (λ _. choose_case (Fine s p) (eqb c 98) (λ _. numeral 0x08 next (omega arith) h)
      (λ _. choose_case (Fine s p) (eqb c 102) (λ _. numeral 0x0C next (omega arith) h)
      (λ _. choose_case (Fine s p) (eqb c 110) (λ _. numeral 0x0A next (omega arith) h)
      (λ _. choose_case (Fine s p) (eqb c 114) (λ _. numeral 0x0D next (omega arith) h)
      (λ _. choose_case (Fine s p) (eqb c 116) (λ _. numeral 0x09 next (omega arith) h)
      (λ _. choose_case (Fine s p) (eqb c 118) (λ _. numeral 0x0B next (omega arith) h)
      (λ _. choose_case (Fine s p) (eqb c 92) (λ _. numeral 0x5C next (omega arith) h)
      (λ _. choose_case (Fine s p) (eqb c 63) (λ _. numeral 0x3F next (omega arith) h)
      (λ _. choose_case (Fine s p) (eqb c 39) (λ _. numeral 0x27 next (omega arith) h)
      (λ _. choose_case (Fine s p) (eqb c 34) (λ _. numeral 0x22 next (omega arith) h) (λ _. tt)))))))))))

  octal_fine : (q : ℕ) → p < q → Fine s p (octal_at s q)
  unfolding octal_at
  octal_fine q h =
      choose_case (Fine s p) (is_octal (get_or s (q + 1) 0))
      (λ _. choose_case (Fine s p) (is_octal (get_or s (q + 2) 0)) (λ _. fit _ _ (omega arith)) (λ _. fit _ _ (omega arith)))
      (λ _. fit _ _ (omega arith))

  hex_fine : (q : ℕ) → p < q → Fine s p (hex_at s q)
  unfolding hex_at
  hex_fine q h =
      choose_case (Fine s p) (is_hex (get_or s q 0))
      (λ _. choose_case (Fine s p) (is_hex (get_or s (q + 1) 0)) (λ _. fit _ _ (omega arith)) (λ _. tt)) (λ _. tt)

  escape_fine : Fine s p (escape_at s (p + 1))
  unfolding escape_at
  escape_fine =
      choose_case (Fine s p) (is_octal (get_or s (p + 1) 0)) (λ _. octal_fine (p + 1) (omega arith))
      (λ _. choose_case (Fine s p) (eqb (get_or s (p + 1) 0) 120) (λ _. hex_fine (p + 1 + 1) (omega arith))
      (λ _. choose_case (Fine s p) (eqb (get_or s (p + 1) 0) 88) (λ _. hex_fine (p + 1 + 1) (omega arith))
      (λ _. letter_fine (get_or s (p + 1) 0) (p + 1 + 1) (omega arith))))

  fine : Fine s p (unescape_at s p)
  unfolding unescape_at
  fine =
      choose_case (Fine s p) (leb (length s) p) (λ _. tt)
      (λ _. choose_case (Fine s p) (eqb (get_or s p 0) 92) (λ _. escape_fine)
      (λ _. record { small = byte_in s p; forward = omega arith }))

step_byte : (s : List ℕ) (p x next : ℕ) → step_of (unescape_at s p) ≡ item x next → Good s p x next
step_byte s p x next = go (unescape_at s p) (fine s p)
  where
    go : (d : Unescaped) → Fine s p d → step_of d ≡ item x next → Good s p x next
    go None f e = let z : ◌≡◌ {A = ℕ} 0 1 = cc in absurd (omega arith)
    go (Some y) f e = let a : y.0 ≡ x = cc in let b : y.1 ≡ next = cc in rw (a, b) at f

-- ---- laws of the pass
pub forward : (s : List ℕ) → Forward (λ k. step_of (unescape_at s k))
forward s p x next e = (step_byte s p x next e).forward

module _ (s : List ℕ) (p : ℕ) where
  pub unescape_end : length s ≤ p → unescape_from s p ≡ ended
  unescape_end h = run_end (λ k. step_of (unescape_at s k)) (length s) p h

  module _ (h : p < length s) (r : Unescaped) (e : r ≡ unescape_at s p) where
    pub unescape_fault : r ≡ Fault → unescape_from s p ≡ broken
    unescape_fault is = run_fault (λ k. step_of (unescape_at s k)) (length s) p h (ap step_of (sym e ∙ is))

    pub unescape_next : (x next : ℕ) → r ≡ Byte x next → unescape_from s p ≡ x then unescape_from s next
    unescape_next x next is = run_item (λ k. step_of (unescape_at s k)) (length s) (forward s) p x next h (ap step_of (sym e ∙ is))

    pub byte_forward : (x next : ℕ) → r ≡ Byte x next → p < next
    byte_forward x next is = forward s p x next (ap step_of (sym e ∙ is))

-- what is unescaped are bytes
pub unescaped_bytes : (s : List ℕ) → All IsByte s → All IsByte (unescaped s)
unescaped_bytes s h =
    run_ind (λ k. step_of (unescape_at s k)) (length s) (forward s) (λ at r. All IsByte (items r))
    (λ at _. tt) (λ at _ _. tt) (λ at x next r _ e rest. ((step_byte s at x next e).small h, rest))
    0
