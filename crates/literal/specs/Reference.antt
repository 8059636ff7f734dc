-- What stands between the quotes of a literal, read by the Rust Reference, "Tokens": string literals and byte string literals.
-- Left out, so refused here: `_` between the digits of `\u{..}`, and `\` at the end of a line. Assumes nothing.
use Rattle.std.specs.Prelude.{ℕ, suc, ◌+◌, ◌-◌, ◌*◌, List, [], ◌∷◌, ◌==◌, nat_le, nat_lt}
use Rattle.std.proofs.Math.Option.{Option, some, none}
use Rattle.base.specs.Choose.{choose}
use Rattle.utf8.specs.Encode.{scalar}

pub data Kind : Type 0 where
  string byte_string : Kind

-- where the reader stands: outside an escape; behind `\`; behind `\x`; behind `\x` and a digit of value v;
-- behind `\u`; behind `\u{` and n digits of value v
pub data Place : Type 0 where
  plain behind hex unicode : Place
  hex_half : ℕ → Place
  digits : ℕ → ℕ → Place

-- what the next character leads to: a place, or a character of the value, or the literal is no such literal
pub data Move : Type 0 where
  to : Place → Move
  gives : ℕ → Move
  refused : Move

-- the largest value of `\x`
abbrev pub most : Kind → ℕ
most string = 0x7F
most byte_string = 0xFF

-- an escape of one letter
unfoldable pub letter : ℕ → Move
letter c =
    choose (c == 110) (gives 10)
    (choose (c == 114) (gives 13)
    (choose (c == 116) (gives 9)
    (choose (c == 92) (gives 92)
    (choose (c == 48) (gives 0) (choose (c == 39) (gives 39) (choose (c == 34) (gives 34) refused))))))

-- a character that stands for itself: no `"`, no carriage return, and in a byte string ASCII
unfoldable pub itself : Kind → ℕ → Move
itself string c = choose (c == 34) refused (choose (c == 13) refused (gives c))
itself byte_string c = choose (c == 34) refused (choose (c == 13) refused (choose (nat_le c 0x7F) (gives c) refused))

-- a hexadecimal digit of either case
unfoldable pub hex_value : ℕ → (ℕ → Move) → Move
hex_value c f =
    choose (nat_lt c 48) refused
    (choose (nat_le c 57) (f (c - 48))
    (choose (nat_lt c 65) refused
    (choose (nat_le c 70) (f (c - 55)) (choose (nat_lt c 97) refused (choose (nat_le c 102) (f (c - 87)) refused)))))

-- `\u` is for strings alone
abbrev pub to_unicode : Kind → Move
to_unicode string = to unicode
to_unicode byte_string = refused

-- n digits, at most six, of value v: one digit at least, and a scalar value
unfoldable pub closed : ℕ → ℕ → Move
closed n v = choose (n == 0) refused (choose (scalar v) (gives v) refused)

unfoldable pub move : Kind → Place → ℕ → Move
move k plain c = choose (c == 92) (to behind) (itself k c)
move k behind c = choose (c == 120) (to hex) (choose (c == 117) (to_unicode k) (letter c))
move k hex c = hex_value c (λ v. to (hex_half v))
move k (hex_half v) c = hex_value c (λ w. choose (nat_le (v * 16 + w) (most k)) (gives (v * 16 + w)) refused)
move k unicode c = choose (c == 123) (to (digits 0 0)) refused
move k (digits n v) c =
    choose (c == 125) (closed n v) (hex_value c (λ w. choose (nat_lt n 6) (to (digits (suc n) (v * 16 + w))) refused))

abbrev pub push : ℕ → Option (List ℕ) → Option (List ℕ)
push x none = none
push x (some v) = some (x ∷ v)

abbrev pub follow : Move → (Place → Option (List ℕ)) → Option (List ℕ)
follow (to q) f = f q
follow (gives x) f = push x (f plain)
follow refused f = none

-- the value ends outside an escape
abbrev pub at_end : Place → Option (List ℕ)
at_end plain = some []
at_end behind = none
at_end hex = none
at_end unicode = none
at_end (hex_half v) = none
at_end (digits n v) = none

-- the value, from a place of the literal on
abbrev pub read_from : Kind → Place → List ℕ → Option (List ℕ)
read_from k p [] = at_end p
read_from k p (c ∷ s) = follow (move k p c) (λ q. read_from k q s)

-- the value of a literal with this text between its quotes
abbrev pub read : Kind → List ℕ → Option (List ℕ)
read k s = read_from k plain s
