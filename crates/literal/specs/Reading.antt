-- Read by the Rust Reference, what is written between the quotes of a literal is the text or the bytes again. Assumes nothing.
use Rattle.std.specs.Prelude.{◌≡◌, ℕ, zero, suc, ◌+◌, ◌-◌, ◌*◌, ◌/◌, ◌%◌, ◌^◌, ◌<◌, ◌≤◌, true, List, [], ◌∷◌, ◌++◌, ◌≢◌, refl}
use Rattle.std.proofs.Common.{sym, ap, ◌∙◌, append_assoc, append-nil, arith, ne_eqb, lt-ltb, le-leb}
use Rattle.std.proofs.Math.Option.{Option, some}
use Rattle.std.proofs.Math.Decide.{dec_lt}
use Rattle.base.specs.Choose.{choose, choices}
use Rattle.base.specs.Bytes.{b}
use Rattle.base.specs.Each.{each, All, all_each}
use Rattle.base.specs.Steps.{run, steps, on_step}
use Rattle.utf8.specs.Utf8.{chars, is_utf8, char_at, two, second, second_low, second_high, between}
use Rattle.utf8.specs.Encode.{scalar, encode}
use Rattle.utf8.specs.Decoding.{scalar_limit, scalar_low}
use Rattle.utf8.specs.Chars.{chars_scalar, encoded_again}
use Rattle.literal.specs.Escape.{hex_digit, hex_digits, letter as escape_letter, escape, unicode_escape, byte_escape, escape_char, escape_byte, escape_text, escape_bytes}
use Rattle.literal.specs.HexLaws.{hex_last, hex_more}
use Rattle.literal.specs.EscapeCases.{Printable, printable_byte, everything, Plain, escape_case, Digit, digit, decimal, letter}
use Rattle.literal.specs.Reference.{Kind, string, byte_string, digits, Move, move, letter as letter_of, itself, hex_value, closed, push, read_from, read}

-- ---- one digit
value_decimal : (d : ℕ) (f : ℕ → Move) → d < 10 → hex_value (48 + d) f ≡ f d
unfolding hex_value
value_decimal d f h =
    let low : 48 ≤ 48 + d = omega arith in
    let high : 48 + d ≤ 57 = omega arith in
    let e : 48 + d - 48 ≡ d = omega arith in
    sym (search choices depth 5) ∙ ap f e

value_letter : (d : ℕ) (f : ℕ → Move) → 10 ≤ d → d < 16 → hex_value (87 + d) f ≡ f d
unfolding hex_value
value_letter d f h g =
    let p : 48 ≤ 87 + d = omega arith in
    let q : 57 < 87 + d = omega arith in
    let r : 65 ≤ 87 + d = omega arith in
    let s : 70 < 87 + d = omega arith in
    let t : 97 ≤ 87 + d = omega arith in
    let u : 87 + d ≤ 102 = omega arith in
    let e : 87 + d - 87 ≡ d = omega arith in
    sym (search choices depth 9) ∙ ap f e

value : (n : ℕ) (f : ℕ → Move) → hex_value (hex_digit n) f ≡ f (n % 16)
value n f = go (digit n)
  where
    go : {x : ℕ} → Digit n x → hex_value x f ≡ f (n % 16)
    go (decimal h) = value_decimal (n % 16) f h
    go (letter h) = value_letter (n % 16) f h (omega arith)

no_brace : (n : ℕ) → hex_digit n ≢ 125
no_brace n = go (digit n)
  where
    go : {x : ℕ} → Digit n x → x ≢ 125
    go (decimal h) = omega arith
    go (letter h) = omega arith

-- ---- the digits between the braces
digit_step : (m v n : ℕ) (s : List ℕ) → m < 6 → read_from string (digits m v) (hex_digit n ∷ s) ≡ read_from string (digits (suc m) (v * 16 + n % 16)) s
unfolding move choose
digit_step m v n s h = rw (ne_eqb (hex_digit n) 125 (no_brace n), value n, lt-ltb m 6 h)

-- as many digits as are needed, six at most, lead to the number
record Reads (k j n : ℕ) : Type 0 where
  count : ℕ
  few : count ≤ j
  reads : (s : List ℕ) → read_from string (digits 0 0) (hex_digits k n ++ s) ≡ read_from string (digits (suc count) n) s

one_digit : (k j n : ℕ) → n < 16 → Reads (suc k) j n
one_digit k j n h =
    record {
      count = 0;
      few = omega arith;
      reads = λ s. rw (hex_last k n h) (digit_step 0 0 n s (omega arith) ∙ ap (λ (v : ℕ). read_from string (digits 1 v) s) (omega arith));
    }

more_digits : (k j n : ℕ) → j < 6 → n < 16 ^ suc (suc k) → n < 16 ^ suc j → ((j n : ℕ) → j < 6 → n < 16 ^ suc k → n < 16 ^ suc j → Reads (suc k) j n) → Dec (n < 16) → Reads (suc (suc k)) j n
more_digits k j n l p q rest (yes h) = one_digit (suc k) j n h
more_digits k zero n l p q rest (no h) = absurd (omega arith)
more_digits k (suc j) n l p q rest (no h) =
    let r : Reads (suc k) j (n / 16) = rest j (n / 16) (omega arith) (omega arith) (omega arith) in
    record {
      count = suc r.count;
      few = omega (arith, r.few);
      reads =
          λ s. rw (hex_more (suc k) n (omega arith), append_assoc)
          (r.reads (hex_digit n ∷ s) ∙ digit_step (suc r.count) (n / 16) n s (omega (arith, r.few))
          ∙ ap (λ (v : ℕ). read_from string (digits (suc (suc r.count)) v) s) (omega arith));
    }

digits_read : (k j n : ℕ) → j < 6 → n < 16 ^ suc k → n < 16 ^ suc j → Reads (suc k) j n
digits_read zero j n l p q = one_digit 0 j n (omega arith)
digits_read (suc k) j n l p q = more_digits k j n l p q (digits_read k) (dec_lt n 16)

closes : (m c : ℕ) (s : List ℕ) → scalar c ≡ true → read_from string (digits (suc m) c) (125 ∷ s) ≡ push c (read string s)
unfolding move closed choose
closes m c s h = rw (ne_eqb (suc m) 0 (omega arith), h)

unicode_reads : (c : ℕ) (s : List ℕ) → scalar c ≡ true → read string (unicode_escape c ++ s) ≡ push c (read string s)
unfolding unicode_escape move choose
unicode_reads c s h =
    let l : c ≤ 0x10FFFF = scalar_limit c h in
    let r : Reads 8 5 c = digits_read 7 5 c (omega arith) (omega arith) (omega arith) in
    ap (λ (l : List ℕ). read_from string (digits 0 0) l) (append_assoc (hex_digits 8 c) (b "}") s)
    ∙ r.reads (125 ∷ s) ∙ closes r.count c s h

-- ---- the two digits of `\\x`
join : (x : ℕ) → x < 256 → x / 16 % 16 * 16 + x % 16 ≡ x
join x h = omega arith

byte_reads : (x : ℕ) (s : List ℕ) → x < 256 → read byte_string (byte_escape x ++ s) ≡ push x (read byte_string s)
unfolding byte_escape move choose
byte_reads x s h = rw (value (x / 16), value x, join x h, le-leb x 0xFF (omega arith))

-- ---- one character or byte
plain_reads : (k : Kind) (c : ℕ) (s : List ℕ) → Plain c → read k (c ∷ s) ≡ push c (read k s)
unfolding move itself choose
plain_reads string c s p = rw (ne_eqb c 92 p.no_backslash, ne_eqb c 34 p.no_quote, ne_eqb c 13 (omega (arith, p.low)))
plain_reads byte_string c s p = rw (ne_eqb c 92 p.no_backslash, ne_eqb c 34 p.no_quote, ne_eqb c 13 (omega (arith, p.low)), le-leb c 0x7F (omega (arith, p.high)))

escape_reads : (k : Kind) (c : ℕ) (other s : List ℕ) → read k (other ++ s) ≡ push c (read k s) → read k (escape c other ++ s) ≡ push c (read k s)
unfolding move letter_of choose
escape_reads k c other s h =
    escape_case (λ p. read k (p ++ s) ≡ push c (read k s)) c other (λ e. rw e) (λ e. rw e) (λ e. rw e) (λ e. rw e) (λ e. rw e) (λ e. rw e)
    (plain_reads k c s) h

char_reads : (c : ℕ) (s : List ℕ) → scalar c ≡ true → read string (escape_char c ++ s) ≡ push c (read string s)
unfolding escape_char
char_reads c s h = escape_reads string c (unicode_escape c) s (unicode_reads c s h)

escaped_byte_reads : (x : ℕ) (s : List ℕ) → x < 256 → read byte_string (escape_byte x ++ s) ≡ push x (read byte_string s)
unfolding escape_byte
escaped_byte_reads x s h = escape_reads byte_string x (byte_escape x) s (byte_reads x s h)

-- ---- many, with a text behind them
abbrev before : List ℕ → Option (List ℕ) → Option (List ℕ)
before [] o = o
before (c ∷ cs) o = push c (before cs o)

before_some : (cs v : List ℕ) → before cs (some v) ≡ some (cs ++ v)
before_some [] v = refl
before_some (c ∷ cs) v = rw (before_some cs v)

module _ (k : Kind) (f : ℕ → List ℕ) (P : ℕ → Type 0) (one : (c : ℕ) (s : List ℕ) → P c → read k (f c ++ s) ≡ push c (read k s)) where
  each_reads : (cs s : List ℕ) → All P cs → read k (each f cs ++ s) ≡ before cs (read k s)
  each_reads [] s h = refl
  each_reads (c ∷ cs) s h =
      ap (read k) (append_assoc (f c) (each f cs) s) ∙ one c (each f cs ++ s) h.0 ∙ ap (push c) (each_reads cs s h.1)

  each_again : (cs : List ℕ) → All P cs → read k (each f cs) ≡ some cs
  each_again cs h =
      ap (read k) (sym (append-nil (each f cs))) ∙ each_reads cs [] h ∙ before_some cs [] ∙ ap some (append-nil cs)

-- ---- a text: read as a string literal, its characters, and where it is well-formed hence its bytes
pub text_again : (s : List ℕ) → read string (escape_text s) ≡ some (chars s)
unfolding escape_text
text_again s = each_again string escape_char (λ c. scalar c ≡ true) char_reads (chars s) (chars_scalar s)

-- the literal's value is a text whose UTF-8 is the default
pub default_again : (s : List ℕ) → is_utf8 s ≡ true → (v : List ℕ) × (read string (escape_text s) ≡ some v) × (each encode v ≡ s)
default_again s h = (chars s, text_again s, encoded_again s h)

-- ---- bytes: read as a string literal, a byte string literal, and that read again the bytes
abbrev pub Byte : ℕ → Type 0
Byte x = x < 256

ascii_scalar : (c : ℕ) → Printable c → scalar c ≡ true
ascii_scalar c h = scalar_low c (omega (arith, h.1))

all_scalar : (cs : List ℕ) → All Printable cs → All (λ c. scalar c ≡ true) cs
all_scalar [] h = tt
all_scalar (c ∷ cs) h = (ascii_scalar c h.0, all_scalar cs h.1)

escapes_scalar : (bs : List ℕ) → All (λ c. scalar c ≡ true) (each escape_byte bs)
escapes_scalar bs = all_scalar (each escape_byte bs) (all_each Printable (λ _. Unit) escape_byte (λ x _. printable_byte x) bs (everything bs))

-- inside its string literal stands the byte string literal `b"..."`
pub byte_string_inside : (bs : List ℕ) → read string (b "b\\\"" ++ (escape_bytes bs ++ b "\\\"")) ≡ some (b "b\"" ++ (each escape_byte bs ++ b "\""))
unfolding escape_bytes move itself letter_of choose
byte_string_inside bs =
    ap (λ (o : Option (List ℕ)). push 98 (push 34 o))
    (each_reads string escape_char (λ c. scalar c ≡ true) char_reads (each escape_byte bs) (b "\\\"") (escapes_scalar bs)
    ∙ before_some (each escape_byte bs) (b "\""))

-- and its value is the bytes
pub bytes_again : (bs : List ℕ) → All Byte bs → read byte_string (each escape_byte bs) ≡ some bs
bytes_again bs h = each_again byte_string escape_byte Byte escaped_byte_reads bs h

-- ---- document 01's table: the default U+00E9
pub table_accent : escape_text (0xC3 ∷ (0xA9 ∷ [])) ≡ b "\\u{e9}"
unfolding escape_text escape_char escape escape_letter unicode_escape hex_digits hex_digit choose run steps on_step char_at two second second_low second_high between
table_accent = refl
