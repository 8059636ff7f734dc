-- An escape by its cases, and that every byte written is printable ASCII. Assumes nothing.
use Rattle.std.specs.Prelude.{◌≡◌, ℕ, zero, suc, ◌+◌, ◌/◌, ◌%◌, ◌<◌, ◌≤◌, List, [], ◌∷◌, ◌++◌, ◌==◌, nat_le, nat_lt}
use Rattle.std.proofs.Common.{arith, ltb-true, ltb-false, leb-true, eqb-true}
use Rattle.std.proofs.lemmas.Bool.{eqb-false}
use Rattle.base.specs.Choose.{choose, choose_case}
use Rattle.base.specs.Bytes.{b}
use Rattle.base.specs.Each.{each, All, all_append, all_each}
use Rattle.utf8.specs.Utf8.{chars}
use Rattle.literal.specs.Escape.{hex_digit, hex_digits, letter as letter_of, escape, unicode_escape, byte_escape, escape_char, escape_byte, escape_text, escape_bytes}

-- a character that is written as it is
pub record Plain (c : ℕ) : Type 0 where
  pub low : 0x20 ≤ c
  pub high : c ≤ 0x7E
  pub no_quote : c ≡ 34 → ⊥
  pub no_backslash : c ≡ 92 → ⊥

pub escape_case : (P : List ℕ → Type 0) (c : ℕ) (other : List ℕ) → (c ≡ 9 → P (b "\\t")) → (c ≡ 13 → P (b "\\r")) → (c ≡ 10 → P (b "\\n")) → (c ≡ 39 → P (b "\\'")) → (c ≡ 34 → P (b "\\\"")) → (c ≡ 92 → P (b "\\\\")) → (Plain c → P (c ∷ [])) → P other → P (escape c other)
unfolding escape letter_of choose
escape_case P c other tab return line single double back plain rest =
    let Q : ℕ → Type 0 = λ l. P (choose (l == 0) (choose (nat_lt c 0x20) other (choose (nat_le c 0x7E) (c ∷ []) other)) (92 ∷ (l ∷ []))) in
    choose_case Q (c == 9) (λ e. tab (eqb-true c 9 e))
    (λ _. choose_case Q (c == 13) (λ e. return (eqb-true c 13 e))
    (λ _. choose_case Q (c == 10) (λ e. line (eqb-true c 10 e))
    (λ _. choose_case Q (c == 39) (λ e. single (eqb-true c 39 e))
    (λ _. choose_case Q (c == 34) (λ e. double (eqb-true c 34 e))
    (λ n. choose_case Q (c == 92) (λ e. back (eqb-true c 92 e))
    (λ m. choose_case P (nat_lt c 0x20) (λ _. rest)
    (λ l. choose_case P (nat_le c 0x7E)
    (λ h. plain (record { low = ltb-false c 0x20 l; high = leb-true c 0x7E h; no_quote = eqb-false c 34 n; no_backslash = eqb-false c 92 m }))
    (λ _. rest))))))))

-- ---- every byte is printable ASCII: none is a line feed
abbrev pub Printable : ℕ → Type 0
Printable x = (0x20 ≤ x) × (x ≤ 0x7E)

-- a hexadecimal digit is `0` to `9` or `a` to `f`
pub data Digit (n : ℕ) : ℕ → Type 0 where
  decimal : n % 16 < 10 → Digit n (48 + n % 16)
  letter : 10 ≤ n % 16 → Digit n (87 + n % 16)

pub digit : (n : ℕ) → Digit n (hex_digit n)
unfolding hex_digit
digit n = choose_case (Digit n) (nat_lt (n % 16) 10) (λ e. decimal (ltb-true (n % 16) 10 e)) (λ e. letter (ltb-false (n % 16) 10 e))

printable_digit : (n : ℕ) → Printable (hex_digit n)
printable_digit n = go (digit n)
  where
    go : {x : ℕ} → Digit n x → Printable x
    go (decimal h) = (omega arith, omega arith)
    go (letter h) = (omega arith, omega arith)

printable_digits : (k n : ℕ) → All Printable (hex_digits k n)
unfolding hex_digits
printable_digits zero n = tt
printable_digits (suc k) n =
    all_append Printable (choose (nat_lt n 16) [] (hex_digits k (n / 16))) (hex_digit n ∷ [])
    (choose_case (All Printable) (nat_lt n 16) (λ _. tt) (λ _. printable_digits k (n / 16)))
    (printable_digit n, tt)

printable_escape : (c : ℕ) (other : List ℕ) → All Printable other → All Printable (escape c other)
printable_escape c other h =
    escape_case (All Printable) c other (λ _. omega arith) (λ _. omega arith) (λ _. omega arith) (λ _. omega arith) (λ _. omega arith) (λ _. omega arith)
    (λ p. ((p.low, p.high), tt)) h

pub printable_char : (c : ℕ) → All Printable (escape_char c)
unfolding escape_char unicode_escape
printable_char c =
    printable_escape c (unicode_escape c)
    (all_append Printable (b "\\u{" ++ hex_digits 8 c) (b "}")
    (all_append Printable (b "\\u{") (hex_digits 8 c) (omega arith) (printable_digits 8 c))
    (omega arith))

pub printable_byte : (x : ℕ) → All Printable (escape_byte x)
unfolding escape_byte byte_escape
printable_byte x = printable_escape x (byte_escape x) (omega arith, (omega arith, (printable_digit (x / 16), (printable_digit x, tt))))

pub everything : (cs : List ℕ) → All (λ _. Unit) cs
everything [] = tt
everything (c ∷ cs) = (tt, everything cs)

pub printable_chars : (cs : List ℕ) → All Printable (each escape_char cs)
printable_chars cs = all_each Printable (λ _. Unit) escape_char (λ c _. printable_char c) cs (everything cs)

pub printable_text : (s : List ℕ) → All Printable (escape_text s)
unfolding escape_text
printable_text s = printable_chars (chars s)

pub printable_bytes : (bs : List ℕ) → All Printable (escape_bytes bs)
unfolding escape_bytes
printable_bytes bs = printable_chars (each escape_byte bs)
