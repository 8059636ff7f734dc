-- Well-formed UTF-8, by the Unicode Standard's table 3-7 of byte ranges (RFC 3629, section 4, restates it). Assumes nothing.
use Rattle.std.specs.Prelude.{Bool, false, List, ℕ, ◌+◌, ◌*◌, ◌%◌, leb, ltb, eqb, length, get_or}
use Rattle.base.specs.Choose.{choose}
use Rattle.base.specs.Steps.{Step, item, fault, Run, run, whole, items}
use Rattle.utf8.specs.declared.Decoded.{Decoded}
use Rattle.utf8.specs.declared.Decoded.TheVariants.{Character, Fault}

unfoldable pub between : ℕ → ℕ → ℕ → Bool
between low high x = choose (ltb x low) false (leb x high)

-- the range of the second byte behind the first byte a; each later byte is 0x80 to 0xBF
unfoldable pub second_low : ℕ → ℕ
second_low a = choose (eqb a 0xE0) 0xA0 (choose (eqb a 0xF0) 0x90 0x80)

unfoldable pub second_high : ℕ → ℕ
second_high a = choose (eqb a 0xED) 0x9F (choose (eqb a 0xF4) 0x8F 0xBF)

unfoldable pub second : ℕ → ℕ → Bool
second a x = between (second_low a) (second_high a) x

unfoldable pub later : ℕ → Bool
later x = between 0x80 0xBF x

-- a character of two, three, four bytes that ends before the place `next`: the low bits of its bytes, one after the other
unfoldable pub two : ℕ → ℕ → ℕ → Decoded
two a x next = choose (second a x) (Character (a % 32 * 64 + x % 64) next) Fault

unfoldable pub three : ℕ → ℕ → ℕ → ℕ → Decoded
three a x y next =
    choose (second a x) (choose (later y) (Character (a % 16 * 4096 + x % 64 * 64 + y % 64) next) Fault) Fault

unfoldable pub four : ℕ → ℕ → ℕ → ℕ → ℕ → Decoded
four a x y z next =
    choose (second a x)
    (choose (later y)
    (choose (later z) (Character (a % 8 * 262144 + x % 64 * 4096 + y % 64 * 64 + z % 64) next) Fault)
    Fault)
    Fault

-- the character at the place i of s. Past the end a byte is read as 0, which is no second and no later byte
unfoldable pub char_at : List ℕ → ℕ → Decoded
char_at s i =
    choose (leb (length s) i) Fault
    (choose (leb (get_or s i 0) 0x7F) (Character (get_or s i 0) (i + 1))
    (choose (ltb (get_or s i 0) 0xC2) Fault
    (choose (leb (get_or s i 0) 0xDF) (two (get_or s i 0) (get_or s (i + 1) 0) (i + 2))
    (choose (leb (get_or s i 0) 0xEF) (three (get_or s i 0) (get_or s (i + 1) 0) (get_or s (i + 2) 0) (i + 3))
    (choose (leb (get_or s i 0) 0xF4) (four (get_or s i 0) (get_or s (i + 1) 0) (get_or s (i + 2) 0) (get_or s (i + 3) 0) (i + 4))
    Fault)))))

abbrev pub step_of : Decoded → Step
step_of (Character c next) = item c next
step_of Fault = fault

-- the characters of s from the place i on
abbrev pub chars_from : List ℕ → ℕ → Run
chars_from s i = run (λ k. step_of (char_at s k)) (length s) i

-- is s well-formed?
abbrev pub is_utf8 : List ℕ → Bool
is_utf8 s = whole (chars_from s 0)

-- the characters of s, up to the first fault if there is one
abbrev pub chars : List ℕ → List ℕ
chars s = items (chars_from s 0)
