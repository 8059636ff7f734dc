-- Numbers in decimal: of 32 bits, and of 32 bits in two's complement. Assumes nothing.
use Rattle.std.specs.Prelude.{ℕ, zero, suc, ◌+◌, ◌-◌, ◌/◌, ◌%◌, ◌^◌, ◌<◌, ◌≤◌, ◌≡◌, refl, List, [], ◌∷◌, ◌++◌, ltb}
use Rattle.std.proofs.Common.{sub-one, lt-ltb, le-ltb}
use Rattle.writer.specs.Text.{pick}

-- the last k digits of n at most, and no leading zero
unfoldable pub digits : ℕ → ℕ → List ℕ
digits zero n = []
digits (suc k) n = pick (ltb n 10) [] (digits k (n / 10)) ++ ((48 + n % 10) ∷ [])

-- a number of 32 bits
abbrev pub decimal : ℕ → List ℕ
decimal n = digits 10 n

-- the signed number whose two's complement in 32 bits is n
unfoldable pub signed : ℕ → List ℕ
signed n = pick (ltb n (2 ^ 31)) (decimal n) ((45 ∷ []) ++ decimal (2 ^ 32 - n))

pub digits_short : (k n : ℕ) → (k ≡ 0 → ⊥) → n < 10 → digits k n ≡ (48 + n % 10) ∷ []
unfolding digits
digits_short zero n h l = absurd (h refl)
digits_short (suc k) n h l = rw (lt-ltb n 10 l)

pub digits_long : (k n : ℕ) → (k ≡ 0 → ⊥) → 10 ≤ n → digits k n ≡ digits (k - 1) (n / 10) ++ ((48 + n % 10) ∷ [])
unfolding digits
digits_long zero n h l = absurd (h refl)
digits_long (suc k) n h l = rw (le-ltb n 10 l, sub-one)

pub signed_above : (n : ℕ) → n < 2 ^ 31 → decimal n ≡ signed n
unfolding signed
signed_above n h = rw (lt-ltb n (2 ^ 31) h)

pub signed_below : (n m : ℕ) → 2 ^ 31 ≤ n → m ≡ 2 ^ 32 - n → (45 ∷ []) ++ decimal m ≡ signed n
unfolding signed
signed_below n m h e = rw (le-ltb n (2 ^ 31) h, e)
