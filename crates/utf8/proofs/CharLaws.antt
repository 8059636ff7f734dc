-- The characters from a place on are the first, and those from the place behind it on.
use Rattle.std.proofs.Common.{◌≡◌, ℕ, ◌<◌, ◌≤◌, List, [], ◌∷◌, length, refl, sym, ap, arith}
use Rattle.std.proofs.Math.Decide.{dec_lt}
use Rattle.base.specs.Steps.{items}
use Rattle.utf8.specs.Utf8.{char_at, chars_from}
use Rattle.utf8.specs.Chars.{chars_end, chars_fault, chars_next}
use Rattle.utf8.specs.Decoding.{only_encodings}
use Rattle.utf8.specs.declared.Decoded.TheVariants.{Character, Fault}

pub no_char : (s : List ℕ) (i : ℕ) → char_at s i ≡ Fault → items (chars_from s i) ≡ []
no_char s i e = go (dec_lt i (length s))
  where
    go : Dec (i < length s) → items (chars_from s i) ≡ []
    go (yes h) = ap items (chars_fault s i h Fault (sym e) refl)
    go (no h) = ap items (chars_end s i (omega arith))

pub first_char : (s : List ℕ) (i c next : ℕ) → char_at s i ≡ Character c next → items (chars_from s i) ≡ c ∷ items (chars_from s next)
first_char s i c next e =
    let d = only_encodings s i c next e in
    let f : i < next = d.forward in
    let w : next ≤ length s = d.within in
    ap items (chars_next s i (omega arith) (Character c next) (sym e) c next refl)

pub past_chars : (s : List ℕ) (i : ℕ) → length s ≤ i → items (chars_from s i) ≡ []
past_chars s i h = ap items (chars_end s i h)

pub ruleset laws = (no_char, first_char, past_chars)
