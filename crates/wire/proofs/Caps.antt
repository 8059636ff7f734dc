-- How large a varint of so many groups is.
use native.Mathlib.Numerals.{unary_clauses}
use Rattle.std.proofs.Common.{◌≡◌, ◌≢◌, ℕ, zero, suc, ◌+◌, ◌-◌, ◌*◌, ◌^◌, ◌<◌, ◌≤◌, refl, arith}
use Rattle.wire.specs.Readers.{cap}

two_fit : (n : ℕ) → 2 ≤ cap (suc n)
unfolding cap
two_fit zero = omega arith
two_fit (suc n) = let h = two_fit n in omega arith

-- a group more
pub cap_more : (left high low : ℕ) → high < cap (left - 1) → low < 128 → high * 128 + low < cap left
unfolding cap
cap_more zero high low h k = absurd (omega arith)
cap_more (suc zero) high low h k = absurd (omega arith)
cap_more (suc (suc n)) high low h k = let g = simp unary_clauses at h in omega arith

pub cap_less : (left : ℕ) → cap (left - 1) ≤ cap left
unfolding cap
cap_less zero = omega arith
cap_less (suc zero) = omega arith
cap_less (suc (suc n)) = simp unary_clauses (omega arith)

-- the last group of several, and the only one
pub cap_last : (left : ℕ) → left ≢ 0 → left ≢ 1 → 128 ≤ cap left
unfolding cap
cap_last zero a b = absurd (a refl)
cap_last (suc zero) a b = absurd (b refl)
cap_last (suc (suc n)) a b = let h = two_fit n in omega arith

pub cap_only : (left : ℕ) → left ≡ 1 → cap left ≡ 2
unfolding cap
cap_only left e = rw e

pub cap_ten : cap 10 ≡ 2 ^ 64
unfolding cap
cap_ten = refl

pub ruleset caps = (cap_more, cap_less, cap_last, cap_only)
