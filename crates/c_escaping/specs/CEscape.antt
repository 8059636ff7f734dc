-- A bytes default as protoc writes it, C-escaped (descriptor.proto, `default_value`), unescapes to its bytes. Assumes nothing.
use Rattle.std.specs.Prelude.{◌≡◌, refl, true, false, drop}
use Rattle.std.proofs.Common.{sym, ap, ◌∙◌}
use Rattle.std.proofs.Math.Option.{some, none}
use mathlib.Core.List.{List, [], ◌∷◌, ◌++◌}
use Prim.Native.Nat.{ℕ, ◌+◌, ◌-◌, ◌*◌, ◌/◌, ◌%◌, ◌<◌}
use native.Mathlib.Omega.{arith}
use Rattle.std.proofs.Math.ListN.{length}
use Rattle.base.specs.Choose.{choose, choices, flags}
use Rattle.base.specs.Each.{each, All}
use Rattle.base.specs.Steps.{Run, whole, items}
use Rattle.base.specs.Encoded.{byte_there, first_there, starts, whole_run, items_run, written_back}
use Rattle.utf8.specs.Utf8.{between}
use Rattle.utf8.specs.Decoding.{range}
use Rattle.literal.specs.Escape.{escape}
use Rattle.literal.specs.EscapeCases.{escape_case}
use Rattle.literal.specs.Reading.{Byte as IsByte}
use Rattle.c_escaping.specs.Unescape.{byte_of, letter, is_octal, octal_at, escape_at, unescape_at, Byte, step_of, unescape_c_escape_string}
use Rattle.c_escaping.specs.Unescaping.{forward}

-- three octal digits
unfoldable pub octal_escape : ℕ → List ℕ
octal_escape x = 92 ∷ ((48 + x / 64) ∷ ((48 + x / 8 % 8) ∷ ((48 + x % 8) ∷ [])))

-- a byte, C-escaped: `\n \r \t \" \' \\`, itself from 0x20 to 0x7E, else three octal digits
unfoldable pub c_escape : ℕ → List ℕ
c_escape x = escape x (octal_escape x)

octal_digit : (k : ℕ) → k < 8 → is_octal (48 + k) ≡ true
unfolding is_octal
octal_digit k h = range 48 55 (48 + k) (omega arith) (omega arith)

module _ (s : List ℕ) (p : ℕ) (q : List ℕ) where
  -- a byte that stands for itself
  plain_there : (x : ℕ) → drop p s ≡ x ∷ q → (x ≡ 92 → ⊥) → unescape_at s p ≡ Byte x (p + 1)
  unfolding unescape_at
  plain_there x e h =
      let w : p < length s = starts s p (x ∷ q) e (omega arith) in
      rw (first_there s p (x ∷ q) e) (sym (search choices depth 5))

  -- an escape of one letter
  letter_there : (c : ℕ) → drop p s ≡ 92 ∷ (c ∷ q) → is_octal c ≡ false → (c ≡ 120 → ⊥) → (c ≡ 88 → ⊥) → unescape_at s p ≡ letter c (p + 2)
  unfolding unescape_at escape_at
  letter_there c e o h g =
      let w : p < length s = starts s p (92 ∷ (c ∷ q)) e (omega arith) in
      let k : p + 1 + 1 ≡ p + 2 = omega arith in
      rw (first_there s p (92 ∷ (c ∷ q)) e, byte_there s p (92 ∷ (c ∷ q)) e 1, k) (sym (search (choices, flags) depth 9))

  -- three octal digits
  octal_there : (x : ℕ) → x < 256 → drop p s ≡ octal_escape x ++ q → unescape_at s p ≡ Byte x (p + 4)
  unfolding octal_escape unescape_at escape_at octal_at byte_of
  octal_there x h e =
      let l : List ℕ = octal_escape x ++ q in
      let w : p < length s = starts s p l e (omega arith) in
      let two : p + 1 + 1 ≡ p + 2 = omega arith in
      let three : p + 1 + 2 ≡ p + 3 = omega arith in
      let four : p + 1 + 3 ≡ p + 4 = omega arith in
      let v : ((48 + x / 64 - 48) * 8 + (48 + x / 8 % 8 - 48)) * 8 + (48 + x % 8 - 48) ≡ x = omega arith in
      rw (first_there s p l e, byte_there s p l e 1, two, three, four, byte_there s p l e 2, byte_there s p l e 3, v)
      (sym (search (choices, flags, octal_digit (x / 64) (omega arith), octal_digit (x / 8 % 8) (omega arith), octal_digit (x % 8) (omega arith)) depth 12))

c_escape_there : (s : List ℕ) (p x : ℕ) (q : List ℕ) → x < 256 → drop p s ≡ c_escape x ++ q → unescape_at s p ≡ Byte x (p + length (c_escape x))
unfolding c_escape octal_escape is_octal between letter choose
c_escape_there s p x q h =
    escape_case (λ l. drop p s ≡ l ++ q → unescape_at s p ≡ Byte x (p + length l)) x (octal_escape x)
    (λ k e. rw k (letter_there s p q 116 e refl (omega arith) (omega arith)))
    (λ k e. rw k (letter_there s p q 114 e refl (omega arith) (omega arith)))
    (λ k e. rw k (letter_there s p q 110 e refl (omega arith) (omega arith)))
    (λ k e. rw k (letter_there s p q 39 e refl (omega arith) (omega arith)))
    (λ k e. rw k (letter_there s p q 34 e refl (omega arith) (omega arith)))
    (λ k e. rw k (letter_there s p q 92 e refl (omega arith) (omega arith)))
    (λ a e. plain_there s p q x e a.no_backslash)
    (octal_there s p q x h)

pub c_escaped : (bs : List ℕ) → All IsByte bs → unescape_c_escape_string (each c_escape bs) ≡ some bs
unfolding choose
c_escaped bs h =
    ap (λ (r : Run). choose (whole r) (some (items r)) none)
    (written_back (λ s k. step_of (unescape_at s k)) c_escape IsByte forward (λ s at x q is here. ap step_of (c_escape_there s at x q is here)) bs h)
    ∙ rw (whole_run bs, items_run bs)
