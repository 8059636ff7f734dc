-- A varint at a position: groups of seven bits, the lowest first, each in a byte that is 128 or more where another follows.
-- It takes at most ten bytes, and its value is below 2 ^ 64.
use Rattle.std.specs.Prelude.{ℕ, zero, suc, ◌+◌, ◌*◌, ◌%◌, ◌≡◌, List, Option, Some, None, length, get_or, ltb, leb, eqb}
use Rattle.base.specs.Choose.{choose}

-- a varint: its value, and the position after it; none where it is cut or over 64 bits
abbrev pub Varint : Type 0
Varint = Option (ℕ × ℕ)

abbrev pub value_at : ℕ → ℕ → Varint
value_at v next = Some (v, next)

-- what becomes of a varint: one thing at a fault, another of its value and the position after it
unfoldable pub on_varint {ℓ} : {A : Type ℓ} → Varint → A → (ℕ → ℕ → A) → A
on_varint None x f = x
on_varint (Some y) x f = f y.0 y.1

module _ {ℓ} {A : Type ℓ} (x z : A) (f : ℕ → ℕ → A) (r w : Varint) where
  pub on_fault : r ≡ w → r ≡ None → z ≡ x → z ≡ on_varint w x f
  unfolding on_varint
  on_fault e is h = rw (← e, is) h

  pub on_value : (v next : ℕ) → r ≡ w → r ≡ value_at v next → z ≡ f v next → z ≡ on_varint w x f
  unfolding on_varint
  on_value v next e is h = rw (← e, is) h

pub ruleset on_varint_laws = (on_fault, on_value)

-- the group g below the others
abbrev pub below : ℕ → Varint → Varint
below g r = on_varint r None (λ v next. value_at (v * 128 + g) next)

-- the last group g, at position at: the tenth holds one bit only
abbrev pub last : ℕ → ℕ → ℕ → Varint
last left g at = choose (eqb left 1) (choose (ltb g 2) (value_at g (at + 1)) None) (value_at g (at + 1))

-- the groups from position at on, of which at most so many may follow
unfoldable pub groups : ℕ → List ℕ → ℕ → Varint
groups zero s at = None
groups (suc n) s at =
    choose (leb (length s) at) None
    (choose (ltb (get_or s at 0) 128) (last (suc n) (get_or s at 0) at) (below (get_or s at 0 % 128) (groups n s (at + 1))))

-- the varint at position at
unfoldable pub varint : List ℕ → ℕ → Varint
varint s at = groups 10 s at

-- what a varint of at most so many groups is below
unfoldable pub cap : ℕ → ℕ
cap zero = 1
cap (suc zero) = 2
cap (suc (suc n)) = cap (suc n) * 128
