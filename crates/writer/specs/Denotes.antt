-- What is written for a number denotes it: the value of its digits is the number, and no zero leads. Assumes nothing.
use Rattle.std.specs.Prelude.{ℕ, zero, suc, ◌+◌, ◌-◌, ◌*◌, ◌/◌, ◌%◌, ◌^◌, ◌<◌, ◌≤◌, ◌≡◌, refl, Bool, true, false, ◌&&◌, List, [], ◌∷◌, ◌++◌, leb, ltb, eqb, ℤ, pos, negsuc}
use Rattle.std.proofs.Common.{ap, ◌∙◌, arith, pow-suc, ltb-true, ltb-false, leb-true, le-leb, lt-ltb, le-ltb, ne_eqb}
use Rattle.std.proofs.Math.Decide.{dec_le}
use Rattle.std.specs.Int.{w32}
use mir.Val.{to_z, sel}
use Rattle.base.specs.Bytes.{b}
use Rattle.base.specs.Tests.{and_left, and_right, and_both, both_ways}
use Rattle.writer.specs.Text.{pick}
use Rattle.writer.specs.Decimal.{digits, decimal, signed, signed_above, signed_below}

-- the value of decimal digits, behind digits whose value is v
abbrev pub value_after : ℕ → List ℕ → ℕ
value_after v [] = v
value_after v (d ∷ ds) = value_after (v * 10 + (d - 48)) ds

-- the value of decimal digits
abbrev pub value : List ℕ → ℕ
value ds = value_after 0 ds

value_snoc : (v : ℕ) (ds : List ℕ) (d : ℕ) → value_after v (ds ++ (d ∷ [])) ≡ value_after v ds * 10 + (d - 48)
value_snoc v [] d = refl
value_snoc v (x ∷ ds) d = value_snoc (v * 10 + (x - 48)) ds d

last_digit : (t : Bool) (n : ℕ) (ds : List ℕ) → ltb n 10 ≡ t → (10 ≤ n → value ds ≡ n / 10) → value (pick t [] ds) * 10 + (48 + n % 10 - 48) ≡ n
last_digit true n ds e h = let l : n < 10 = ltb-true n 10 e in omega arith
last_digit false n ds e h = let l : value ds ≡ n / 10 = h (ltb-false n 10 e) in omega arith

-- the value of the digits is the number
pub digits_value : (k n : ℕ) → n < 10 ^ k → value (digits k n) ≡ n
unfolding digits
digits_value zero n h = omega arith
digits_value (suc k) n h =
    let p : n < 10 ^ k * 10 = rw pow-suc at h in
    let q : n / 10 < 10 ^ k = omega arith in
    value_snoc 0 (pick (ltb n 10) [] (digits k (n / 10))) (48 + n % 10)
    ∙ last_digit (ltb n 10) n (digits k (n / 10)) refl (λ _. digits_value k (n / 10) q)

-- is each byte a digit?
abbrev pub all_digits : List ℕ → Bool
all_digits [] = true
all_digits (d ∷ ds) = leb 48 d && leb d 57 && all_digits ds

-- is the first a digit other than 0?
abbrev pub leads : List ℕ → Bool
leads [] = false
leads (d ∷ ds) = ltb 48 d

digits_snoc : (ds : List ℕ) (d : ℕ) → all_digits ds ≡ true → 48 ≤ d → d ≤ 57 → all_digits (ds ++ (d ∷ [])) ≡ true
digits_snoc [] d h l m = rw (le-leb 48 d l, le-leb d 57 m)
digits_snoc (x ∷ ds) d h l m =
    and_both (and_left (leb 48 x && leb x 57) (all_digits ds) h)
    (digits_snoc ds d (and_right (leb 48 x && leb x 57) (all_digits ds) h) l m)

digits_pick : (t : Bool) (ds : List ℕ) → all_digits ds ≡ true → all_digits (pick t [] ds) ≡ true
digits_pick true ds h = refl
digits_pick false ds h = h

pub digits_all : (k n : ℕ) → all_digits (digits k n) ≡ true
unfolding digits
digits_all zero n = refl
digits_all (suc k) n =
    digits_snoc (pick (ltb n 10) [] (digits k (n / 10))) (48 + n % 10)
    (digits_pick (ltb n 10) (digits k (n / 10)) (digits_all k (n / 10))) (omega arith) (omega arith)

leads_append : (ds es : List ℕ) → leads ds ≡ true → leads (ds ++ es) ≡ true
leads_append [] es h = both_ways h refl
leads_append (d ∷ ds) es h = h

leads_last : (t : Bool) (n : ℕ) (ds : List ℕ) → ltb n 10 ≡ t → 0 < n → (10 ≤ n → leads ds ≡ true) → leads (pick t [] ds ++ ((48 + n % 10) ∷ [])) ≡ true
leads_last true n ds e l h = let m : n < 10 = ltb-true n 10 e in lt-ltb 48 (48 + n % 10) (omega arith)
leads_last false n ds e l h = leads_append ds ((48 + n % 10) ∷ []) (h (ltb-false n 10 e))

pub digits_lead : (k n : ℕ) → 0 < n → n < 10 ^ k → leads (digits k n) ≡ true
unfolding digits
digits_lead zero n l h = absurd (omega arith)
digits_lead (suc k) n l h =
    let p : n < 10 ^ k * 10 = rw pow-suc at h in
    let q : n / 10 < 10 ^ k = omega arith in
    leads_last (ltb n 10) n (digits k (n / 10)) refl l (λ m. digits_lead k (n / 10) (omega arith) q)

-- ds is the decimal numeral of n
pub record Denotes (n : ℕ) (ds : List ℕ) : Type 0 where
  pub is_value : value ds ≡ n
  pub are_digits : all_digits ds ≡ true
  pub zero_alone : n ≡ 0 → ds ≡ b "0"
  pub no_zero_leads : 0 < n → leads ds ≡ true

pub decimal_denotes : (n : ℕ) → n < 2 ^ 32 → Denotes n (decimal n)
unfolding digits
decimal_denotes n h =
    record {
      is_value = digits_value 10 n (omega arith);
      are_digits = digits_all 10 n;
      zero_alone = λ e. ap decimal e;
      no_zero_leads = λ l. digits_lead 10 n l (omega arith);
    }

-- the integer that a numeral with or without `-` denotes
abbrev pub minus : ℕ → ℤ
minus zero = pos zero
minus (suc n) = negsuc n

abbrev pub integer : List ℕ → ℤ
integer [] = pos 0
integer (c ∷ ds) = sel (eqb c 45) (minus (value ds)) (pos (value (c ∷ ds)))

integer_digits : (ds : List ℕ) → all_digits ds ≡ true → integer ds ≡ pos (value ds)
integer_digits [] h = refl
integer_digits (c ∷ ds) h =
    let l : 48 ≤ c = leb-true 48 c (and_left (leb 48 c) (leb c 57) (and_left (leb 48 c && leb c 57) (all_digits ds) h)) in
    rw (ne_eqb c 45 (λ e. omega arith))

-- what is written for the signed number of these 32 bits denotes that number
pub signed_denotes : (n : ℕ) → n < 2 ^ 32 → integer (signed n) ≡ to_z w32 n
signed_denotes n h = on (dec_le (2 ^ 31) n)
  where
    minus_is : (m k : ℕ) → m ≡ suc k → minus m ≡ negsuc k
    minus_is m k e = ap minus e

    on : Dec (2 ^ 31 ≤ n) → integer (signed n) ≡ to_z w32 n
    on (yes l) =
        rw (← signed_below n (2 ^ 32 - n) l refl, le-ltb n (2 ^ 31) l, digits_value 10 (2 ^ 32 - n) (omega arith))
        (minus_is (2 ^ 32 - n) (2 ^ 32 - suc n) (omega arith))
    on (no l) =
        rw (← signed_above n (omega arith), lt-ltb n (2 ^ 31) (omega arith), integer_digits (decimal n) (digits_all 10 n))
        (ap pos (digits_value 10 n (omega arith)))

-- the least
pub signed_least : signed (2 ^ 31) ≡ b "-2147483648"
unfolding signed digits
signed_least = refl
