-- Laws of hexadecimal numbers. Assumes nothing.
use Rattle.std.specs.Prelude.{◌≡◌, ℕ, zero, suc, ◌-◌, ◌/◌, ◌<◌, ◌≤◌, [], ◌∷◌, ◌++◌, ◌≢◌, refl}
use Rattle.std.proofs.Common.{sub-one}
use Rattle.base.specs.Choose.{then_lt, else_lt}
use Rattle.literal.specs.Escape.{hex_digit, hex_digits}

pub hex_none : (n : ℕ) → hex_digits 0 n ≡ []
unfolding hex_digits
hex_none n = refl

pub hex_last : (k n : ℕ) → n < 16 → hex_digits (suc k) n ≡ hex_digit n ∷ []
unfolding hex_digits
hex_last k n l = rw (← then_lt [] (hex_digits k (n / 16)) [] n 16 l refl)

pub hex_more : (k n : ℕ) → 16 ≤ n → hex_digits (suc k) n ≡ hex_digits k (n / 16) ++ (hex_digit n ∷ [])
unfolding hex_digits
hex_more k n l = rw (← else_lt [] (hex_digits k (n / 16)) (hex_digits k (n / 16)) n 16 l refl)

-- the same for a number of digits that code counts down
pub hex_short : (k n : ℕ) → (k ≢ 0) → n < 16 → hex_digits k n ≡ hex_digit n ∷ []
hex_short zero n h l = absurd (h refl)
hex_short (suc k) n h l = hex_last k n l

pub hex_long : (k n : ℕ) → (k ≢ 0) → 16 ≤ n → hex_digits k n ≡ hex_digits (k - 1) (n / 16) ++ (hex_digit n ∷ [])
hex_long zero n h l = absurd (h refl)
hex_long (suc k) n h l = rw sub-one (hex_more k n l)
