-- A bytes default as it is written, read back, and the table's row. Assumes nothing.
use Rattle.std.specs.Prelude.{◌≡◌, refl, List, [], ◌∷◌, ◌++◌, ℕ}
use Rattle.std.proofs.Math.Option.{some, none}
use Rattle.base.specs.Bytes.{b}
use Rattle.base.specs.Choose.{choose}
use Rattle.base.specs.Each.{each, All}
use Rattle.base.specs.Steps.{run, steps, on_step}
use Rattle.utf8.specs.Utf8.{between}
use Rattle.literal.specs.Escape.{escape_byte, escape_bytes}
use Rattle.literal.specs.Reference.{string, byte_string, read}
use Rattle.literal.specs.Reading.{byte_string_inside, bytes_again, Byte as IsByte}
use Rattle.c_escaping.specs.Unescape.{byte_of, letter, is_octal, octal_at, is_hex, hex_value, hex_at, escape_at, unescape_at, unescaped, unescape_c_escape_string}
use Rattle.c_escaping.specs.Unescaping.{unescaped_bytes}

-- between the quotes of a bytes default stands a byte string literal, `b"..."`, and its value is the unescaped bytes
pub default_again : (s : List ℕ) → All IsByte s → (read string (b "b\\\"" ++ (escape_bytes (unescaped s) ++ b "\\\"")) ≡ some (b "b\"" ++ (each escape_byte (unescaped s) ++ b "\""))) × (read byte_string (each escape_byte (unescaped s)) ≡ some (unescaped s))
default_again s h = (byte_string_inside (unescaped s), bytes_again (unescaped s) (unescaped_bytes s h))

-- ---- document 01's table: `\101\x0a` is 0x41 0x0A
pub table_escape : unescape_c_escape_string (b "\\101\\x0a") ≡ some (0x41 ∷ (0x0A ∷ []))
unfolding unescape_at escape_at octal_at hex_at is_octal is_hex hex_value byte_of letter between choose run steps on_step
table_escape = refl

-- `\x+5` and `\400`, which the Rust reads
pub table_sign : unescape_c_escape_string (b "\\x+5") ≡ none
unfolding unescape_at escape_at octal_at hex_at is_octal is_hex hex_value byte_of letter between choose run steps on_step
table_sign = refl

pub table_overflow : unescape_c_escape_string (b "\\400") ≡ none
unfolding unescape_at escape_at octal_at hex_at is_octal is_hex hex_value byte_of letter between choose run steps on_step
table_overflow = refl

-- `\08` is 0x00 and `8`
pub table_octal : unescape_c_escape_string (b "\\08") ≡ some (0x00 ∷ (0x38 ∷ []))
unfolding unescape_at escape_at octal_at hex_at is_octal is_hex hex_value byte_of letter between choose run steps on_step
table_octal = refl
