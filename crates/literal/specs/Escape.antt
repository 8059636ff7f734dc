-- Rust's `escape_default` of a character, a byte and a text, by the documentation of `char`, `std::ascii` and `str`. Assumes nothing.
use Rattle.std.specs.Prelude.{ℕ, zero, suc, ◌+◌, ◌/◌, ◌%◌, List, [], ◌∷◌, ◌++◌, ◌==◌, nat_le, nat_lt}
use Rattle.base.specs.Choose.{choose}
use Rattle.base.specs.Bytes.{b}
use Rattle.base.specs.Each.{each}
use Rattle.utf8.specs.Utf8.{chars}
use Rattle.literal.specs.declared.Form.{Form}
use Rattle.literal.specs.declared.Form.TheVariants.{Letter, Plain, Long}

-- the last hexadecimal digit of n, in lower case
unfoldable pub hex_digit : ℕ → ℕ
hex_digit n = choose (nat_lt (n % 16) 10) (48 + n % 16) (87 + n % 16)

-- the last k hexadecimal digits of n at most, and no leading zero
unfoldable pub hex_digits : ℕ → ℕ → List ℕ
hex_digits zero n = []
hex_digits (suc k) n = choose (nat_lt n 16) [] (hex_digits k (n / 16)) ++ (hex_digit n ∷ [])

-- a number below 16 ^ 8 in hexadecimal
abbrev pub hexadecimal : ℕ → List ℕ
hexadecimal n = hex_digits 8 n

-- an escape of one letter, as `\t`: its letter, and 0 for a character that has none
unfoldable pub letter : ℕ → ℕ
letter c =
    choose (c == 9) 116
    (choose (c == 13) 114
    (choose (c == 10) 110 (choose (c == 39) 39 (choose (c == 34) 34 (choose (c == 92) 92 0)))))

-- what a character and a byte have alike: an escape of one letter, or itself from 0x20 to 0x7E; `other` stands for the rest
unfoldable pub escape : ℕ → List ℕ → List ℕ
escape c other =
    choose (letter c == 0) (choose (nat_lt c 0x20) other (choose (nat_le c 0x7E) (c ∷ []) other)) (92 ∷ (letter c ∷ []))

-- the same text by the form that code finds; the last argument stands for the rest
abbrev pub form_text : Form → List ℕ → List ℕ
form_text (Letter l) long = 92 ∷ (l ∷ [])
form_text (Plain c) long = c ∷ []
form_text Long long = long

unfoldable pub unicode_escape : ℕ → List ℕ
unicode_escape c = b "\\u{" ++ hexadecimal c ++ b "}"

unfoldable pub byte_escape : ℕ → List ℕ
byte_escape x = 92 ∷ (120 ∷ (hex_digit (x / 16) ∷ (hex_digit x ∷ [])))

-- `char::escape_default`
unfoldable pub escape_char : ℕ → List ℕ
escape_char c = escape c (unicode_escape c)

-- `ascii::escape_default`
unfoldable pub escape_byte : ℕ → List ℕ
escape_byte x = escape x (byte_escape x)

-- `str::escape_default`: each character of the text; of a text that is not well-formed, those before the first fault
unfoldable pub escape_text : List ℕ → List ℕ
escape_text s = each escape_char (chars s)

-- a byte string's bytes, for a literal that stands in a literal: the characters of each byte's escape are escaped again
unfoldable pub escape_bytes : List ℕ → List ℕ
escape_bytes bs = each escape_char (each escape_byte bs)
