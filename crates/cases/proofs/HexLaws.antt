-- The bytes of some digits, one after the other. Assumes nothing.
use Rattle.std.proofs.Common.{◌≡◌, refl, ap, ℕ, ◌+◌, ◌*◌, List, [], ◌∷◌, length, arith, Option, Some, None, Bor, MatchOption, unwrap_or}
use Rattle.std.specs.List.{IsFirstAndRest}
use Rattle.cases.specs.Hex.{digit_value, hex_bytes}

pub no_digits : (s : List ℕ) → length s ≡ 0 → hex_bytes s ≡ []
unfolding hex_bytes
no_digits [] h = refl
no_digits (high ∷ s) h = absurd (omega arith)

two_digits : (high low : ℕ) (s rest : List ℕ) → s ≡ low ∷ rest → hex_bytes (high ∷ s) ≡ (digit_value high * 16 + digit_value low) ∷ hex_bytes rest
unfolding hex_bytes
two_digits high low s rest e = rw e refl

one_digit : (high : ℕ) (s : List ℕ) → length s ≡ 0 → hex_bytes (high ∷ s) ≡ (digit_value high * 16 + digit_value 0) ∷ hex_bytes s
unfolding hex_bytes
one_digit high [] h = ap (λ (n : ℕ). n ∷ []) (omega arith)
one_digit high (x ∷ s) h = absurd (omega arith)

-- the second digit as the code looks for it
pub next_byte : (s : List ℕ) (high : ℕ) (rest : List ℕ) (d : Bor ℕ × Bor (List ℕ)) → s ≡ high ∷ rest → d.0.now ≡ 0 → d.1.now ≡ rest → (o : Option (Bor ℕ × Bor (List ℕ))) → MatchOption o (length rest ≡ 0) (λ p. IsFirstAndRest rest p.0.now p.1.now) → (p : Bor ℕ × Bor (List ℕ)) → p ≡ unwrap_or o d → (x y : ℕ) → x ≡ digit_value high → y ≡ digit_value p.0.now → hex_bytes s ≡ (x * 16 + y) ∷ hex_bytes p.1.now
next_byte s high rest d e z r None h p is x y u w = rw (u, w, is, e, z, r) (one_digit high rest h)
next_byte s high rest d e z r (Some q) h p is x y u w = rw (u, w, is, e) (two_digits high q.0.now rest q.1.now h.0)
