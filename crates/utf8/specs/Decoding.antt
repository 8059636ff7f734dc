-- A step of decoding inverts the encoding of each character, and accepts nothing else. Assumes nothing.
use Rattle.std.specs.Prelude.{◌≡◌, refl, Bool, true, false, leb, ltb, eqb, drop}
use Rattle.std.proofs.Common.{sym, ◌∙◌, drop-cons, ltb-true, ltb-false, leb-true, leb-false, eqb-true, le-leb}
use Rattle.std.proofs.Math.Path.{ap}
use mathlib.Core.List.{List, [], ◌∷◌, ◌++◌}
use Prim.Native.Nat.{ℕ, suc, ◌+◌, ◌*◌, ◌/◌, ◌%◌, ◌≤◌, ◌<◌}
use native.Mathlib.Omega.{arith}
use Rattle.std.proofs.Math.Decide.{dec_lt, ℕ_discrete}
use Rattle.std.proofs.Math.ListN.{length, get_or, get_or-eq_default}
use Rattle.std.proofs.lemmas.Bool.{eqb-false}
use Rattle.base.specs.Choose.{choose_case, choices, flags}
use Rattle.base.specs.Encoded.{byte_there, first_there, starts}
use Rattle.utf8.specs.Utf8.{between, second_low, second_high, second, later, two, three, four, char_at}
use Rattle.utf8.specs.Encode.{scalar, encode}
use Rattle.utf8.specs.declared.Decoded.{Decoded}
use Rattle.utf8.specs.declared.Decoded.TheVariants.{Character, Fault}

-- ---- the ranges of a second and a later byte
record Second (a x : ℕ) : Type 0 where
  low : 0x80 ≤ x
  high : x ≤ 0xBF
  e0 : a ≡ 0xE0 → 0xA0 ≤ x
  ed : a ≡ 0xED → x ≤ 0x9F
  f0 : a ≡ 0xF0 → 0x90 ≤ x
  f4 : a ≡ 0xF4 → x ≤ 0x8F

record Between (low high x : ℕ) : Type 0 where
  above : low ≤ x
  below : x ≤ high

no_flag : ◌≡◌ {A = Bool} false true → ⊥
no_flag h = let z : ◌≡◌ {A = ℕ} 0 1 = cc in omega arith

in_range : (low high x : ℕ) → between low high x ≡ true → Between low high x
unfolding between
in_range low high x = choose_case (λ (t : Bool). t ≡ true → Between low high x) (ltb x low) (λ e h. absurd (no_flag h)) (λ e h. record { above = ltb-false x low e; below = leb-true x high h })

pub range : (low high x : ℕ) → low ≤ x → x ≤ high → between low high x ≡ true
unfolding between
range low high x p q = sym (search (choices, sym (le-leb x high q)) depth 5)

low_fact : (a x : ℕ) → second_low a ≤ x → (0x80 ≤ x) × (a ≡ 0xE0 → 0xA0 ≤ x) × (a ≡ 0xF0 → 0x90 ≤ x)
unfolding second_low
low_fact a x =
    let P : ℕ → Type 0 = λ l. l ≤ x → (0x80 ≤ x) × (a ≡ 0xE0 → 0xA0 ≤ x) × (a ≡ 0xF0 → 0x90 ≤ x) in
    choose_case P (eqb a 0xE0) (λ e h. let q : a ≡ 0xE0 = eqb-true a 0xE0 e in (omega arith, omega arith, omega arith))
    (λ e. choose_case P (eqb a 0xF0) (λ g h. (omega arith, λ f. absurd (eqb-false a 0xE0 e f), λ _. h))
    (λ g h. (h, λ f. absurd (eqb-false a 0xE0 e f), λ f. absurd (eqb-false a 0xF0 g f))))

high_fact : (a x : ℕ) → x ≤ second_high a → (x ≤ 0xBF) × (a ≡ 0xED → x ≤ 0x9F) × (a ≡ 0xF4 → x ≤ 0x8F)
unfolding second_high
high_fact a x =
    let P : ℕ → Type 0 = λ l. x ≤ l → (x ≤ 0xBF) × (a ≡ 0xED → x ≤ 0x9F) × (a ≡ 0xF4 → x ≤ 0x8F) in
    choose_case P (eqb a 0xED) (λ e h. let q : a ≡ 0xED = eqb-true a 0xED e in (omega arith, omega arith, omega arith))
    (λ e. choose_case P (eqb a 0xF4) (λ g h. (omega arith, λ f. absurd (eqb-false a 0xED e f), λ _. h))
    (λ g h. (h, λ f. absurd (eqb-false a 0xED e f), λ f. absurd (eqb-false a 0xF4 g f))))

second_range : (a x : ℕ) → second a x ≡ true → Second a x
unfolding second
second_range a x e =
    let r : Between (second_low a) (second_high a) x = in_range (second_low a) (second_high a) x e in
    let l = low_fact a x r.above in
    let h = high_fact a x r.below in
    record { low = l.0; high = h.0; e0 = l.1; ed = h.1; f0 = l.2; f4 = h.2 }

is_second : (a x : ℕ) → Second a x → second a x ≡ true
unfolding second second_low second_high
is_second a x r =
    range (second_low a) (second_high a) x
    (choose_case (λ l. l ≤ x) (eqb a 0xE0) (λ e. r.e0 (eqb-true a 0xE0 e))
    (λ _. choose_case (λ l. l ≤ x) (eqb a 0xF0) (λ e. r.f0 (eqb-true a 0xF0 e)) (λ _. r.low)))
    (choose_case (λ l. x ≤ l) (eqb a 0xED) (λ e. r.ed (eqb-true a 0xED e))
    (λ _. choose_case (λ l. x ≤ l) (eqb a 0xF4) (λ e. r.f4 (eqb-true a 0xF4 e)) (λ _. r.high)))

later_range : (x : ℕ) → later x ≡ true → Between 0x80 0xBF x
unfolding later
later_range x = in_range 0x80 0xBF x

is_later : (x : ℕ) → 0x80 ≤ x → x ≤ 0xBF → later x ≡ true
unfolding later
is_later x = range 0x80 0xBF x

-- ---- what the bits of a character are
pub scalar_low : (c : ℕ) → c < 0xD800 → scalar c ≡ true
unfolding scalar
scalar_low c h = sym (search choices depth 5)

scalar_high : (c : ℕ) → 0xE000 ≤ c → c ≤ 0x10FFFF → scalar c ≡ true
unfolding scalar
scalar_high c h g = let k : 0xD800 ≤ c = omega arith in sym (search (choices, sym (le-leb c 0x10FFFF g)) depth 5)

three_scalar : (a x y : ℕ) → 0xDF < a → a ≤ 0xEF → Second a x → Between 0x80 0xBF y → Dec (a ≡ 0xED) → Dec (a < 0xED) → scalar (a % 16 * 4096 + x % 64 * 64 + y % 64) ≡ true
three_scalar a x y h g r l (yes e) d = let p : x ≤ 0x9F = r.ed e in scalar_low _ (omega arith)
three_scalar a x y h g r l (no n) (yes e) = scalar_low _ (omega arith)
three_scalar a x y h g r l (no n) (no e) = scalar_high _ (omega arith) (omega arith)

four_scalar : (a x y z : ℕ) → 0xEF < a → a ≤ 0xF4 → Second a x → Between 0x80 0xBF y → Between 0x80 0xBF z → Dec (a ≡ 0xF0) → Dec (a ≡ 0xF4) → (0x10000 ≤ a % 8 * 262144 + x % 64 * 4096 + y % 64 * 64 + z % 64) × (a % 8 * 262144 + x % 64 * 4096 + y % 64 * 64 + z % 64 ≤ 0x10FFFF)
four_scalar a x y z h g r l m (yes e) d = let p : 0x90 ≤ x = r.f0 e in (omega arith, omega arith)
four_scalar a x y z h g r l m (no n) (yes e) = let p : x ≤ 0x8F = r.f4 e in (omega arith, omega arith)
four_scalar a x y z h g r l m (no n) (no e) = (omega arith, omega arith)

three_large : (a x y : ℕ) → 0xDF < a → a ≤ 0xEF → Second a x → Between 0x80 0xBF y → Dec (a ≡ 0xE0) → (0x800 ≤ a % 16 * 4096 + x % 64 * 64 + y % 64) × (a % 16 * 4096 + x % 64 * 64 + y % 64 < 0x10000)
three_large a x y h g r l (yes e) = let p : 0xA0 ≤ x = r.e0 e in (omega arith, omega arith)
three_large a x y h g r l (no e) = (omega arith, omega arith)

-- ---- the encoding by its number of bytes
encode_one : (c : ℕ) → c < 0x80 → encode c ≡ c ∷ []
unfolding encode
encode_one c h = sym (search choices depth 5)

encode_two : (c a x : ℕ) → 0x80 ≤ c → c < 0x800 → a ≡ 192 + c / 64 → x ≡ 128 + c % 64 → encode c ≡ a ∷ (x ∷ [])
unfolding encode
encode_two c a x h g p q = rw (p, q) (sym (search choices depth 5))

encode_three : (c a x y : ℕ) → 0x800 ≤ c → c < 0x10000 → a ≡ 224 + c / 4096 → x ≡ 128 + c / 64 % 64 → y ≡ 128 + c % 64 → encode c ≡ a ∷ (x ∷ (y ∷ []))
unfolding encode
encode_three c a x y h g p q r = let k : 0x80 ≤ c = omega arith in rw (p, q, r) (sym (search choices depth 6))

encode_four : (c a x y z : ℕ) → 0x10000 ≤ c → a ≡ 240 + c / 262144 → x ≡ 128 + c / 4096 % 64 → y ≡ 128 + c / 64 % 64 → z ≡ 128 + c % 64 → encode c ≡ a ∷ (x ∷ (y ∷ (z ∷ [])))
unfolding encode
encode_four c a x y z h p q r t =
    let k : 0x80 ≤ c = omega arith in
    let l : 0x800 ≤ c = omega arith in
    rw (p, q, r, t) (sym (search choices depth 6))

-- ---- what a step accepts
-- at the place i of s stands the encoding of the character c, and ends before `next`
pub record Decodes (s : List ℕ) (i c next : ℕ) : Type 0 where
  pub is_scalar : scalar c ≡ true
  pub bytes : drop i s ≡ encode c ++ drop next s
  pub forward : i < next
  pub within : next ≤ length s

abbrev Fine : List ℕ → ℕ → Decoded → Type 0
Fine s i Fault = Unit
Fine s i (Character c next) = Decodes s i c next

byte_next : (s : List ℕ) (j k : ℕ) → k ≡ suc j → j < length s → drop j s ≡ get_or s j 0 ∷ drop k s
byte_next s j k e h = rw e (drop-cons s j 0 h)

inside : (s : List ℕ) (j : ℕ) → 0 < get_or s j 0 → j < length s
inside s j h = go (dec_lt j (length s))
  where
    go : Dec (j < length s) → j < length s
    go (yes l) = l
    go (no n) = let e : get_or s j 0 ≡ 0 = get_or-eq_default s 0 (omega arith) in absurd (omega arith)

module _ (s : List ℕ) (i : ℕ) (h : i < length s) where
  one_fine : get_or s i 0 ≤ 0x7F → Decodes s i (get_or s i 0) (i + 1)
  one_fine g =
      record {
        is_scalar = scalar_low _ (omega arith);
        bytes = rw (encode_one (get_or s i 0) (omega arith)) (byte_next s i (i + 1) (omega arith) h);
        forward = omega arith;
        within = omega arith;
      }

  two_fine : 0xC2 ≤ get_or s i 0 → get_or s i 0 ≤ 0xDF → Fine s i (two (get_or s i 0) (get_or s (i + 1) 0) (i + 2))
  unfolding two
  two_fine l g =
      let a : ℕ = get_or s i 0 in
      let x : ℕ = get_or s (i + 1) 0 in
      choose_case (Fine s i) (second a x)
      (λ e. let r : Second a x = second_range a x e in
      let w : i + 1 < length s = inside s (i + 1) (omega arith) in
      let c : ℕ = a % 32 * 64 + x % 64 in
      let d : encode c ≡ a ∷ (x ∷ []) = encode_two c a x (omega arith) (omega arith) (omega arith) (omega arith) in
      record {
        is_scalar = scalar_low _ (omega arith);
        bytes = rw d (byte_next s i (i + 1) (omega arith) h ∙ ap (λ (r : List ℕ). get_or s i 0 ∷ r) (byte_next s (i + 1) (i + 2) (omega arith) w));
        forward = omega arith;
        within = omega arith;
      }) (λ _. tt)

  three_fine : 0xDF < get_or s i 0 → get_or s i 0 ≤ 0xEF → Fine s i (three (get_or s i 0) (get_or s (i + 1) 0) (get_or s (i + 2) 0) (i + 3))
  unfolding three
  three_fine l g =
      let a : ℕ = get_or s i 0 in
      let x : ℕ = get_or s (i + 1) 0 in
      let y : ℕ = get_or s (i + 2) 0 in
      choose_case (Fine s i) (second a x)
      (λ e. choose_case (Fine s i) (later y)
      (λ f. let r : Second a x = second_range a x e in
      let t : Between 0x80 0xBF y = later_range y f in
      let w : i + 2 < length s = inside s (i + 2) (omega arith) in
      let c : ℕ = a % 16 * 4096 + x % 64 * 64 + y % 64 in
      let k = three_large a x y l g r t (ℕ_discrete a 0xE0) in
      let d : encode c ≡ a ∷ (x ∷ (y ∷ [])) = encode_three c a x y k.0 k.1 (omega arith) (omega arith) (omega arith) in
      record {
        is_scalar = three_scalar a x y l g r t (ℕ_discrete a 0xED) (dec_lt a 0xED);
        bytes =
            rw d
            (byte_next s i (i + 1) (omega arith) h
            ∙ ap (λ (r : List ℕ). a ∷ r)
            (byte_next s (i + 1) (i + 2) (omega arith) (omega arith)
            ∙ ap (λ (r : List ℕ). x ∷ r) (byte_next s (i + 2) (i + 3) (omega arith) w)));
        forward = omega arith;
        within = omega arith;
      }) (λ _. tt)) (λ _. tt)

  four_fine : 0xEF < get_or s i 0 → get_or s i 0 ≤ 0xF4 → Fine s i (four (get_or s i 0) (get_or s (i + 1) 0) (get_or s (i + 2) 0) (get_or s (i + 3) 0) (i + 4))
  unfolding four
  four_fine l g =
      let a : ℕ = get_or s i 0 in
      let x : ℕ = get_or s (i + 1) 0 in
      let y : ℕ = get_or s (i + 2) 0 in
      let z : ℕ = get_or s (i + 3) 0 in
      choose_case (Fine s i) (second a x)
      (λ e. choose_case (Fine s i) (later y)
      (λ f. choose_case (Fine s i) (later z)
      (λ j. let r : Second a x = second_range a x e in
      let t : Between 0x80 0xBF y = later_range y f in
      let u : Between 0x80 0xBF z = later_range z j in
      let w : i + 3 < length s = inside s (i + 3) (omega arith) in
      let c : ℕ = a % 8 * 262144 + x % 64 * 4096 + y % 64 * 64 + z % 64 in
      let k = four_scalar a x y z l g r t u (ℕ_discrete a 0xF0) (ℕ_discrete a 0xF4) in
      let d : encode c ≡ a ∷ (x ∷ (y ∷ (z ∷ []))) = encode_four c a x y z k.0 (omega arith) (omega arith) (omega arith) (omega arith) in
      record {
        is_scalar = scalar_high c (omega arith) k.1;
        bytes =
            rw d
            (byte_next s i (i + 1) (omega arith) h
            ∙ ap (λ (r : List ℕ). a ∷ r)
            (byte_next s (i + 1) (i + 2) (omega arith) (omega arith)
            ∙ ap (λ (r : List ℕ). x ∷ r)
            (byte_next s (i + 2) (i + 3) (omega arith) (omega arith)
            ∙ ap (λ (r : List ℕ). y ∷ r) (byte_next s (i + 3) (i + 4) (omega arith) w))));
        forward = omega arith;
        within = omega arith;
      }) (λ _. tt)) (λ _. tt)) (λ _. tt)

fine : (s : List ℕ) (i : ℕ) → Fine s i (char_at s i)
unfolding char_at
fine s i =
    let F : Decoded → Type 0 = Fine s i in
    let a : ℕ = get_or s i 0 in
    choose_case F (leb (length s) i) (λ _. tt)
    (λ n. let h : i < length s = leb-false (length s) i n in
    choose_case F (leb a 0x7F) (λ e. one_fine s i h (leb-true a 0x7F e))
    (λ _. choose_case F (ltb a 0xC2) (λ _. tt)
    (λ e. let p : 0xC2 ≤ a = ltb-false a 0xC2 e in
    choose_case F (leb a 0xDF) (λ f. two_fine s i h p (leb-true a 0xDF f))
    (λ f. let q : 0xDF < a = leb-false a 0xDF f in
    choose_case F (leb a 0xEF) (λ g. three_fine s i h q (leb-true a 0xEF g))
    (λ g. let r : 0xEF < a = leb-false a 0xEF g in
    choose_case F (leb a 0xF4) (λ j. four_fine s i h r (leb-true a 0xF4 j)) (λ _. tt))))))

-- what a step accepts is the encoding of the character that it gives
pub only_encodings : (s : List ℕ) (i c next : ℕ) → char_at s i ≡ Character c next → Decodes s i c next
only_encodings s i c next e = rw e at (fine s i)

-- ---- a step at an encoding gives its character
module _ (s : List ℕ) (i a : ℕ) (q : List ℕ) where
  at_one : drop i s ≡ a ∷ q → a ≤ 0x7F → Character a (i + 1) ≡ char_at s i
  unfolding char_at
  at_one e h =
      let w : i < length s = starts s i (a ∷ q) e (omega arith) in
      rw (first_there s i (a ∷ q) e) (search choices depth 9)

  at_two : (x : ℕ) → drop i s ≡ a ∷ (x ∷ q) → 0xC2 ≤ a → a ≤ 0xDF → Second a x → Character (a % 32 * 64 + x % 64) (i + 2) ≡ char_at s i
  unfolding char_at two
  at_two x e h k r =
      let w : i < length s = starts s i (a ∷ (x ∷ q)) e (omega arith) in
      let g : 0x7F < a = omega arith in
      rw (first_there s i (a ∷ (x ∷ q)) e, byte_there s i (a ∷ (x ∷ q)) e 1)
      (search (choices, flags, is_second a x r) depth 12)

  at_three : (x y : ℕ) → drop i s ≡ a ∷ (x ∷ (y ∷ q)) → 0xDF < a → a ≤ 0xEF → Second a x → Between 0x80 0xBF y → Character (a % 16 * 4096 + x % 64 * 64 + y % 64) (i + 3) ≡ char_at s i
  unfolding char_at three
  at_three x y e h k r t =
      let w : i < length s = starts s i (a ∷ (x ∷ (y ∷ q))) e (omega arith) in
      let g : 0x7F < a = omega arith in
      let f : 0xC2 ≤ a = omega arith in
      rw (first_there s i (a ∷ (x ∷ (y ∷ q))) e, byte_there s i (a ∷ (x ∷ (y ∷ q))) e 1, byte_there s i (a ∷ (x ∷ (y ∷ q))) e 2)
      (search (choices, flags, is_second a x r, is_later y t.above t.below) depth 12)

  at_four : (x y z : ℕ) → drop i s ≡ a ∷ (x ∷ (y ∷ (z ∷ q))) → 0xEF < a → a ≤ 0xF4 → Second a x → Between 0x80 0xBF y → Between 0x80 0xBF z → Character (a % 8 * 262144 + x % 64 * 4096 + y % 64 * 64 + z % 64) (i + 4) ≡ char_at s i
  unfolding char_at four
  at_four x y z e h k r t u =
      let w : i < length s = starts s i (a ∷ (x ∷ (y ∷ (z ∷ q)))) e (omega arith) in
      let g : 0x7F < a = omega arith in
      let f : 0xC2 ≤ a = omega arith in
      let d : 0xDF < a = omega arith in
      rw (first_there s i (a ∷ (x ∷ (y ∷ (z ∷ q)))) e, byte_there s i (a ∷ (x ∷ (y ∷ (z ∷ q)))) e 1, byte_there s i (a ∷ (x ∷ (y ∷ (z ∷ q)))) e 2, byte_there s i (a ∷ (x ∷ (y ∷ (z ∷ q)))) e 3)
      (search (choices, flags, is_second a x r, is_later y t.above t.below, is_later z u.above u.below) depth 14)

-- ---- what a scalar value is not
pub scalar_limit : (c : ℕ) → scalar c ≡ true → c ≤ 0x10FFFF
unfolding scalar
scalar_limit c =
    let P : Bool → Type 0 = λ t. t ≡ true → c ≤ 0x10FFFF in
    choose_case P (ltb c 0xD800) (λ e _. let h : c < 0xD800 = ltb-true c 0xD800 e in omega arith)
    (λ _. choose_case P (ltb c 0xE000) (λ _ h. absurd (no_flag h)) (λ _ h. leb-true c 0x10FFFF h))

no_surrogate : (c : ℕ) → scalar c ≡ true → 0xD800 ≤ c → 0xE000 ≤ c
unfolding scalar
no_surrogate c =
    let P : Bool → Type 0 = λ t. t ≡ true → 0xD800 ≤ c → 0xE000 ≤ c in
    choose_case P (ltb c 0xD800) (λ e _ l. let h : c < 0xD800 = ltb-true c 0xD800 e in omega arith)
    (λ _. choose_case P (ltb c 0xE000) (λ _ h. absurd (no_flag h)) (λ e _ _. ltb-false c 0xE000 e))

surrogate_byte : (c : ℕ) → scalar c ≡ true → 224 + c / 4096 ≡ 0xED → Dec (c < 0xD800) → 128 + c / 64 % 64 ≤ 0x9F
surrogate_byte c h e (yes l) = omega arith
surrogate_byte c h e (no n) = let g : 0xE000 ≤ c = no_surrogate c h (omega arith) in omega arith

-- the bits of c, 6 at a time
low_bits : (x : ℕ) → (128 + x % 64) % 64 ≡ x % 64
low_bits x = omega arith

top_bits : (x : ℕ) → x ≤ 4 → (240 + x) % 8 ≡ x
top_bits x h = omega arith

joined : (c : ℕ) → c / 262144 * 262144 + c / 4096 % 64 * 4096 + c / 64 % 64 * 64 + c % 64 ≡ c
joined c =
    let t : c / 64 ≡ c / 4096 * 64 + c / 64 % 64 = omega arith in
    let w : c / 4096 ≡ c / 262144 * 64 + c / 4096 % 64 = omega arith in
    let d : c ≡ c / 64 * 64 + c % 64 = omega arith in
    sums (c / 262144) (c / 4096) (c / 4096 % 64) (c / 64) (c / 64 % 64) (c % 64) c t w d
  where
    sums : (u w v t r b c : ℕ) → t ≡ w * 64 + r → w ≡ u * 64 + v → c ≡ t * 64 + b → u * 262144 + v * 4096 + r * 64 + b ≡ c
    sums u w v t r b c p q d = omega arith

module _ (s : List ℕ) (i c : ℕ) (q : List ℕ) (is : scalar c ≡ true) (here : drop i s ≡ encode c ++ q) where
  decodes_one : c < 0x80 → char_at s i ≡ Character c (i + length (encode c))
  decodes_one h =
      let e : encode c ≡ c ∷ [] = encode_one c h in
      rw e (sym (at_one s i c q (rw e at here) (omega arith)))

  decodes_two : 0x80 ≤ c → c < 0x800 → char_at s i ≡ Character c (i + length (encode c))
  decodes_two l h =
      let a : ℕ = 192 + c / 64 in
      let x : ℕ = 128 + c % 64 in
      let e : encode c ≡ a ∷ (x ∷ []) = encode_two c a x l h refl refl in
      let r : Second a x = record { low = omega arith; high = omega arith; e0 = omega arith; ed = omega arith; f0 = omega arith; f4 = omega arith } in
      let v : a % 32 * 64 + x % 64 ≡ c = omega arith in
      rw e (sym (at_two s i a q x (rw e at here) (omega arith) (omega arith) r) ∙ ap (λ (k : ℕ). Character k (i + 2)) v)

  decodes_three : 0x800 ≤ c → c < 0x10000 → char_at s i ≡ Character c (i + length (encode c))
  decodes_three l h =
      let a : ℕ = 224 + c / 4096 in
      let x : ℕ = 128 + c / 64 % 64 in
      let y : ℕ = 128 + c % 64 in
      let e : encode c ≡ a ∷ (x ∷ (y ∷ [])) = encode_three c a x y l h refl refl refl in
      let r : Second a x = record { low = omega arith; high = omega arith; e0 = omega arith; ed = λ f. surrogate_byte c is f (dec_lt c 0xD800); f0 = omega arith; f4 = omega arith } in
      let v : a % 16 * 4096 + x % 64 * 64 + y % 64 ≡ c = omega arith in
      rw e (sym (at_three s i a q x y (rw e at here) (omega arith) (omega arith) r (record { above = omega arith; below = omega arith })) ∙ ap (λ (k : ℕ). Character k (i + 3)) v)

  decodes_four : 0x10000 ≤ c → char_at s i ≡ Character c (i + length (encode c))
  decodes_four l =
      let m : c ≤ 0x10FFFF = scalar_limit c is in
      let a : ℕ = 240 + c / 262144 in
      let x : ℕ = 128 + c / 4096 % 64 in
      let y : ℕ = 128 + c / 64 % 64 in
      let z : ℕ = 128 + c % 64 in
      let e : encode c ≡ a ∷ (x ∷ (y ∷ (z ∷ []))) = encode_four c a x y z l refl refl refl refl in
      let r : Second a x = record { low = omega arith; high = omega arith; e0 = omega arith; ed = omega arith; f0 = omega arith; f4 = omega arith } in
      let v : a % 8 * 262144 + x % 64 * 4096 + y % 64 * 64 + z % 64 ≡ c = rw (top_bits (c / 262144) (omega arith), low_bits (c / 4096), low_bits (c / 64), low_bits c) (joined c) in
      rw e (sym (at_four s i a q x y z (rw e at here) (omega arith) (omega arith) r (record { above = omega arith; below = omega arith }) (record { above = omega arith; below = omega arith })) ∙ ap (λ (k : ℕ). Character k (i + 4)) v)

  by_size : Dec (c < 0x80) → Dec (c < 0x800) → Dec (c < 0x10000) → char_at s i ≡ Character c (i + length (encode c))
  by_size (yes h) d f = decodes_one h
  by_size (no n) (yes h) f = decodes_two (omega arith) h
  by_size (no n) (no m) (yes h) = decodes_three (omega arith) h
  by_size (no n) (no m) (no l) = decodes_four (omega arith)

  -- a step at the encoding of a character gives that character and the place behind it
  pub decodes : char_at s i ≡ Character c (i + length (encode c))
  decodes = by_size (dec_lt c 0x80) (dec_lt c 0x800) (dec_lt c 0x10000)
