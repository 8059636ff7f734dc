-- One step of `groups`, case by case, and what a varint is bounded by. Assumes nothing.
use mathlib.Core.Path.{◌≡◌, refl}
use mathlib.Core.List.{List}
use Prim.Native.Nat.{ℕ, zero, suc, ◌+◌, ◌*◌, ◌-◌, ◌%◌, ◌<◌, ◌≤◌}
use native.Mathlib.Numerals.{sub-one}
use native.Mathlib.Omega.{arith}
use lib.ListN.{length, get_or}
use lib.Dec.{ltb, leb, eqb}
use borrow.Author.Tests.{ltb-true, leb-false}
use Rattle.base.specs.Choose.{choose, choose_case, choices}
use Rattle.wire.specs.Varint.{value_at, Varint, groups, varint, below, on_varint, last, cap}
use Rattle.std.specs.Prelude.{Some, None}

-- the definition's second clause, where the count is not 0
step : (left : ℕ) (s : List ℕ) (at : ℕ) → (left ≡ 0 → ⊥)
    → groups left s at ≡ choose (leb (length s) at) None (choose (ltb (get_or s at 0) 128) (last left (get_or s at 0) at) (below (get_or s at 0 % 128) (groups (left - 1) s (at + 1))))
unfolding groups
step zero s at ne = absurd (ne refl)
step (suc n) s at ne = rw sub-one

module _ (left : ℕ) (s : List ℕ) (at : ℕ) (ne : left ≡ 0 → ⊥) (in_s : at < length s) (b : ℕ) (is_b : b ≡ get_or s at 0) where
  pub tenth : b < 128 → left ≡ 1 → b < 2 → value_at b (at + 1) ≡ groups left s at
  tenth small one big = rw (step left s at ne, ← is_b) (search choices depth 9)

  pub final : b < 128 → (left ≡ 1 → ⊥) → value_at b (at + 1) ≡ groups left s at
  final small more = rw (step left s at ne, ← is_b) (search choices depth 9)

  goes_on : (r : Varint) → 128 ≤ b → r ≡ groups (left - 1) s (at + 1) → below (b % 128) r ≡ groups left s at
  goes_on r big e = rw (step left s at ne, ← is_b, ← e) (search choices depth 9)

  pub goes_value : (r : Varint) (v next : ℕ) → 128 ≤ b → r ≡ groups (left - 1) s (at + 1) → r ≡ value_at v next → value_at (v * 128 + b % 128) next ≡ groups left s at
  unfolding on_varint
  goes_value r v next big e is = rw is at (goes_on r big e)

-- what is known of a varint at position at, of at most left bytes
abbrev pub Known : ℕ → List ℕ → ℕ → Varint → Type 0
Known left s at None = Unit
Known left s at (Some y) = (y.0 < cap left) × (at < y.1) × (y.1 ≤ length s)

cap_pos : (n : ℕ) → 1 ≤ cap n
unfolding cap
cap_pos zero = omega arith
cap_pos (suc zero) = omega arith
cap_pos (suc (suc n)) = let h : 1 ≤ cap (suc n) = cap_pos (suc n) in omega arith

-- a last group at position at, whose byte b is there
last_known : (n : ℕ) (s : List ℕ) (at b : ℕ) → at < length s → b < 128 → Known (suc n) s at (last (suc n) b at)
unfolding cap choose
last_known zero s at b h small =
    choose_case (Known 1 s at) (ltb b 2) (λ e. let l : b < 2 = ltb-true _ _ e in let k : Known 1 s at (value_at b (at + 1)) = (omega arith, omega arith, omega arith) in k) (λ _. tt)
last_known (suc n) s at b h small =
    let p : 1 ≤ cap (suc n) = cap_pos (suc n) in
    let is : Known (suc (suc n)) s at (value_at b (at + 1)) = (omega arith, omega arith, omega arith) in
    choose_case (Known (suc (suc n)) s at) (eqb (suc (suc n)) 1) (λ _. choose_case (Known (suc (suc n)) s at) (ltb b 2) (λ _. is) (λ _. tt)) (λ _. is)

below_known : (n : ℕ) (s : List ℕ) (at b : ℕ) (r : Varint) → r ≡ groups n s (at + 1) → Known n s (at + 1) r → Known (suc n) s at (below (b % 128) r)
unfolding cap groups on_varint
below_known n s at b None e k = tt
below_known zero s at b (Some y) e k = let z : ◌≡◌ {A = ℕ} 0 1 = cc in absurd (omega arith)
below_known (suc n) s at b (Some y) e k = (omega arith, omega arith, omega arith)

pub known : (left : ℕ) (s : List ℕ) (at : ℕ) → Known left s at (groups left s at)
unfolding groups
known zero s at = tt
known (suc n) s at =
    choose_case (Known (suc n) s at) (leb (length s) at) (λ _. tt)
    (λ e. choose_case (Known (suc n) s at) (ltb (get_or s at 0) 128) (λ t. last_known n s at (get_or s at 0) (leb-false _ _ e) (ltb-true _ _ t))
    (λ _. below_known n s at (get_or s at 0) (groups n s (at + 1)) refl (known n s (at + 1))))

pub known_varint : (s : List ℕ) (at : ℕ) → Known 10 s at (varint s at)
unfolding varint
known_varint s at = known 10 s at
