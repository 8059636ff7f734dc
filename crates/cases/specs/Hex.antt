-- Bytes in hex, as a list has them.
use Rattle.std.specs.Prelude.{ℕ, ◌+◌, ◌*◌, ◌%◌, List, [], ◌∷◌, nat_le, if◌then◌else◌}

-- what a digit in lower case stands for; every other byte stands for something too
abbrev pub digit_value : ℕ → ℕ
digit_value c = if nat_le c 57 then c % 16 else (c % 16 + 9) % 16

-- a last digit without another is a byte's upper half
unfoldable pub hex_bytes : List ℕ → List ℕ
hex_bytes [] = []
hex_bytes (high ∷ []) = digit_value high * 16 ∷ []
hex_bytes (high ∷ (low ∷ s)) = (digit_value high * 16 + digit_value low) ∷ hex_bytes s
