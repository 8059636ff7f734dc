-- The digits that are written for a number are those of the library.
use Rattle.std.proofs.Common.{◌≡◌, ℕ, suc, ◌-◌, ◌%◌, ◌^◌, ◌≤◌, ◌<◌, ◌∷◌, sym, ap, ◌∙◌, arith, lt-ltb, le-ltb}
use Rattle.std.proofs.Math.Decide.{dec_le}
use Rattle.std.proofs.lemmas.Fmt.{AppendsLastDigit, decimal_from_appends, length-decimal-le}
use Rattle.std.proofs.Math.Facts.{to_z_pos, to_z-neg}
use Rattle.std.specs.Fmt.{signed_decimal, decimal as std_decimal}
use Rattle.std.specs.Int.{w32}
use mir.Val.{to_z}
use Rattle.writer.specs.Decimal.{digits, decimal, signed, signed_above, signed_below}

appends : AppendsLastDigit digits
unfolding digits
appends =
    record {
      one = λ k n h. let e : n % 10 ≡ n = omega arith in rw (lt-ltb n 10 h, e);
      more = λ k n h. rw (le-ltb n 10 h);
    }

pub decimal-is : (n : ℕ) → n < 2 ^ 32 → std_decimal n ≡ decimal n
decimal-is n h = sym (decimal_from_appends digits appends 10 n (omega arith) (length-decimal-le 10 n (omega arith) (omega arith) (omega arith)))

pub signed-is : (n : ℕ) → n < 2 ^ 32 → signed_decimal (to_z w32 n) ≡ signed n
signed-is n h = on (dec_le (2 ^ 31) n)
  where
    negative : (m k : ℕ) → m < 2 ^ 32 → n ≡ 2 ^ 32 - m → m ≡ suc k → 2 ^ 31 ≤ n → signed_decimal (to_z w32 n) ≡ signed n
    negative m k b e f l =
        ap (λ (x : ℕ). signed_decimal (to_z w32 x)) (e ∙ ap (λ (x : ℕ). 2 ^ 32 - x) f)
        ∙ ap signed_decimal (to_z-neg w32 k (omega arith))
        ∙ ap (λ (x : ℕ). 45 ∷ std_decimal x) (sym f)
        ∙ ap (λ (ds : _). 45 ∷ ds) (decimal-is m b) ∙ signed_below n m l (omega arith)

    on : Dec (2 ^ 31 ≤ n) → signed_decimal (to_z w32 n) ≡ signed n
    on (yes l) = negative (2 ^ 32 - n) (2 ^ 32 - suc n) (omega arith) (omega arith) (omega arith) l
    on (no l) = ap signed_decimal (to_z_pos w32 (omega arith)) ∙ decimal-is n h ∙ signed_above n (omega arith)
