-- c_escaping.rs, `unescape_c_escape_string`, with document 01's two refusals: `\x` takes exactly two hex digits, and an octal value
-- above 255 is none. Past the end a byte is read as 0, which is no digit and no letter of an escape. Assumes nothing.
use Rattle.std.specs.Prelude.{Bool, true, List, ℕ, ◌+◌, ◌-◌, ◌*◌, Option, Some, None, leb, ltb, eqb, length, get_or}
use Rattle.std.proofs.Math.Option.{Option as Possibly, some, none}
use Rattle.base.specs.Choose.{choose}
use Rattle.base.specs.Steps.{Step, item, fault, Run, run, whole, items}
use Rattle.utf8.specs.Utf8.{between}

-- what stands at a place: a byte with the place behind it, or none
abbrev pub Unescaped : Type 0
Unescaped = Option (ℕ × ℕ)

abbrev pub Byte : ℕ → ℕ → Unescaped
Byte x next = Some (x, next)

abbrev pub Fault : Unescaped
Fault = None

-- a value that fits a byte
unfoldable pub byte_of : ℕ → ℕ → Unescaped
byte_of v next = choose (ltb v 256) (Byte v next) Fault

-- an escape of one letter
unfoldable pub letter : ℕ → ℕ → Unescaped
letter c next =
    choose (eqb c 97) (Byte 0x07 next)
    (choose (eqb c 98) (Byte 0x08 next)
    (choose (eqb c 102) (Byte 0x0C next)
    (choose (eqb c 110) (Byte 0x0A next)
    (choose (eqb c 114) (Byte 0x0D next)
    (choose (eqb c 116) (Byte 0x09 next)
    (choose (eqb c 118) (Byte 0x0B next)
    (choose (eqb c 92) (Byte 0x5C next)
    (choose (eqb c 63) (Byte 0x3F next)
    (choose (eqb c 39) (Byte 0x27 next) (choose (eqb c 34) (Byte 0x22 next) Fault))))))))))

unfoldable pub is_octal : ℕ → Bool
is_octal c = between 48 55 c

-- one to three octal digits from the place p on, where the first stands
unfoldable pub octal_at : List ℕ → ℕ → Unescaped
octal_at s p =
    choose (is_octal (get_or s (p + 1) 0))
    (choose (is_octal (get_or s (p + 2) 0))
    (byte_of (((get_or s p 0 - 48) * 8 + (get_or s (p + 1) 0 - 48)) * 8 + (get_or s (p + 2) 0 - 48)) (p + 3))
    (byte_of ((get_or s p 0 - 48) * 8 + (get_or s (p + 1) 0 - 48)) (p + 2)))
    (byte_of (get_or s p 0 - 48) (p + 1))

unfoldable pub is_hex : ℕ → Bool
is_hex c = choose (between 48 57 c) true (choose (between 65 70 c) true (between 97 102 c))

unfoldable pub hex_value : ℕ → ℕ
hex_value c = choose (leb c 57) (c - 48) (choose (leb c 70) (c - 55) (c - 87))

-- two hexadecimal digits from the place p on
unfoldable pub hex_at : List ℕ → ℕ → Unescaped
hex_at s p =
    choose (is_hex (get_or s p 0))
    (choose (is_hex (get_or s (p + 1) 0)) (byte_of (hex_value (get_or s p 0) * 16 + hex_value (get_or s (p + 1) 0)) (p + 2)) Fault)
    Fault

-- an escape whose `\` stands before the place p
unfoldable pub escape_at : List ℕ → ℕ → Unescaped
escape_at s p =
    choose (is_octal (get_or s p 0)) (octal_at s p)
    (choose (eqb (get_or s p 0) 120) (hex_at s (p + 1))
    (choose (eqb (get_or s p 0) 88) (hex_at s (p + 1)) (letter (get_or s p 0) (p + 1))))

-- the byte that stands at the place p, as it is or as an escape
unfoldable pub unescape_at : List ℕ → ℕ → Unescaped
unescape_at s p =
    choose (leb (length s) p) Fault
    (choose (eqb (get_or s p 0) 92) (escape_at s (p + 1)) (Byte (get_or s p 0) (p + 1)))

abbrev pub step_of : Unescaped → Step
step_of (Some y) = item y.0 y.1
step_of None = fault

-- the bytes of s from the place p on
abbrev pub unescape_from : List ℕ → ℕ → Run
unescape_from s p = run (λ k. step_of (unescape_at s k)) (length s) p

-- does s unescape? (else refusal 9)
abbrev pub unescapes : List ℕ → Bool
unescapes s = whole (unescape_from s 0)

-- the bytes, up to the first fault if there is one
abbrev pub unescaped : List ℕ → List ℕ
unescaped s = items (unescape_from s 0)

abbrev pub unescape_c_escape_string : List ℕ → Possibly (List ℕ)
unescape_c_escape_string s = choose (unescapes s) (some (unescaped s)) none
