-- What stands at the front of some bytes, and the bytes after it; none where it is cut or wrong.
use Rattle.std.specs.Prelude.{ℕ, zero, suc, ◌+◌, ◌*◌, ◌%◌, List, [], ◌∷◌, length, take, drop, Option, Some, None, ◌&&◌, ◌==◌, nat_lt, nat_le, if◌then◌else◌, option_and_then}
use Rattle.std.specs.Option.{option_map}
use Rattle.wire.specs.Encoding.{Value, varint_value, i64_value, len_value, i32_value, little_endian}

infixl 10 ◌>>=◌
abbrev pub ◌>>=◌ : {A B : Type 0} → Option A → (A → Option B) → Option B
o >>= f = option_and_then f o

-- groups of seven bits, the lowest first, each in a byte that is 128 or more where another follows; at most so many. Of ten, the last holds one bit
unfoldable pub groups : ℕ → List ℕ → Option (ℕ × List ℕ)
groups zero bytes = None
groups (suc left) [] = None
groups (suc left) (b ∷ bs) =
    if nat_lt b 128 then (if left == 0 && nat_lt 1 b then None else Some (b, bs))
    else option_map (λ v. (v.0 * 128 + b % 128, v.1)) (groups left bs)

-- a varint: at most ten bytes, and a value below 2 ^ 64
unfoldable pub varint : List ℕ → Option (ℕ × List ℕ)
varint bytes = groups 10 bytes

-- what the value of so many groups is below
unfoldable pub cap : ℕ → ℕ
cap zero = 0
cap (suc zero) = 2
cap (suc (suc n)) = cap (suc n) * 128

-- so many bytes
unfoldable pub cut : ℕ → List ℕ → Option (List ℕ × List ℕ)
cut len bytes = if nat_le len (length bytes) then Some (take len bytes, drop len bytes) else None

-- a value by its wire type, and the bytes from its own on, which of a string of bytes stand behind the length
unfoldable pub payload : ℕ → List ℕ → Option ((Value × List ℕ) × List ℕ)
payload wire_type bytes =
    if wire_type == 0 then (varint bytes >>= λ v. Some ((varint_value v.0, bytes), v.1))
    else (if wire_type == 1 then (cut 8 bytes >>= λ v. Some ((i64_value (little_endian v.0), bytes), v.1))
    else (if wire_type == 2 then (varint bytes >>= λ len. cut len.0 len.1 >>= λ v. Some ((len_value v.0, len.1), v.1))
    else (if wire_type == 5 then (cut 4 bytes >>= λ v. Some ((i32_value (little_endian v.0), bytes), v.1)) else None)))
