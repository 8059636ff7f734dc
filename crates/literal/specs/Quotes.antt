-- In what is written between quotes each `"` is behind an odd run of `\`, so that the closing quote is the first that is not. Assumes nothing.
use Rattle.std.specs.Prelude.{◌≡◌, ℕ, zero, suc, ◌+◌, ◌/◌, ◌%◌, List, [], ◌∷◌, ◌++◌, ◌==◌, ◌≢◌, nat_lt, refl}
use Rattle.std.proofs.Common.{ap, ◌∙◌, arith, ne_eqb}
use Rattle.std.proofs.Math.Option.{Option, some, none}
use Rattle.base.specs.Choose.{choose, choose_case}
use Rattle.base.specs.Bytes.{b}
use Rattle.base.specs.Each.{each}
use Rattle.utf8.specs.Utf8.{chars}
use Rattle.literal.specs.Escape.{hex_digit, hex_digits, escape, unicode_escape, escape_char, escape_byte, escape_text, escape_bytes}
use Rattle.literal.specs.EscapeCases.{escape_case, Digit, digit, decimal, letter}

-- between the quotes; there, behind an odd run of `\`; behind the closing quote
pub data Quote : Type 0 where
  between behind closed : Quote

unfoldable pub over : Quote → ℕ → Quote
over between c = choose (c == 92) behind (choose (c == 34) closed between)
over behind c = between
over closed c = closed

-- where a text leads to
abbrev pub goes : Quote → List ℕ → Quote
goes q [] = q
goes q (c ∷ s) = goes (over q c) s

-- a text that may stand between quotes: it has no quote of its own and leaves no escape open
abbrev pub Inner : List ℕ → Type 0
Inner s = goes between s ≡ between

pub goes_append : (q : Quote) (s t : List ℕ) → goes q (s ++ t) ≡ goes (goes q s) t
goes_append q [] t = refl
goes_append q (c ∷ s) t = goes_append (over q c) s t

pub inner_append : (s t : List ℕ) → Inner s → Inner t → Inner (s ++ t)
inner_append s t h g = goes_append between s t ∙ ap (λ (q : Quote). goes q t) h ∙ g

pub inner_plain : (c : ℕ) → (c ≢ 92) → (c ≢ 34) → Inner (c ∷ [])
unfolding over choose
inner_plain c h g = rw (ne_eqb c 92 h, ne_eqb c 34 g)

inner_digit : (n : ℕ) → Inner (hex_digit n ∷ [])
inner_digit n = go (digit n)
  where
    go : {x : ℕ} → Digit n x → Inner (x ∷ [])
    go (decimal h) = inner_plain (48 + n % 16) (omega arith) (omega arith)
    go (letter h) = inner_plain (87 + n % 16) (omega arith) (omega arith)

inner_digits : (k n : ℕ) → Inner (hex_digits k n)
unfolding hex_digits
inner_digits zero n = refl
inner_digits (suc k) n =
    inner_append (choose (nat_lt n 16) [] (hex_digits k (n / 16))) (hex_digit n ∷ [])
    (choose_case Inner (nat_lt n 16) (λ _. refl) (λ _. inner_digits k (n / 16)))
    (inner_digit n)

inner_escape : (c : ℕ) (other : List ℕ) → Inner other → Inner (escape c other)
unfolding over choose
inner_escape c other h =
    escape_case Inner c other (λ _. refl) (λ _. refl) (λ _. refl) (λ _. refl) (λ _. refl) (λ _. refl)
    (λ p. inner_plain c p.no_backslash p.no_quote) h

pub inner_char : (c : ℕ) → Inner (escape_char c)
unfolding escape_char unicode_escape over choose
inner_char c =
    inner_escape c (unicode_escape c)
    (inner_append (b "\\u{" ++ hex_digits 8 c) (b "}") (inner_append (b "\\u{") (hex_digits 8 c) refl (inner_digits 8 c)) refl)

pub inner_chars : (cs : List ℕ) → Inner (each escape_char cs)
inner_chars [] = refl
inner_chars (c ∷ cs) = inner_append (escape_char c) (each escape_char cs) (inner_char c) (inner_chars cs)

pub inner_text : (s : List ℕ) → Inner (escape_text s)
unfolding escape_text
inner_text s = inner_chars (chars s)

pub inner_bytes : (bs : List ℕ) → Inner (escape_bytes bs)
unfolding escape_bytes
inner_bytes bs = inner_chars (each escape_byte bs)

-- ---- the closing quote
-- what stands behind the closing quote of a literal
abbrev pub on_closed : Quote → Option (List ℕ) → Option (List ℕ) → Option (List ℕ)
on_closed between p r = r
on_closed behind p r = r
on_closed closed p r = p

abbrev pub behind_quote : Quote → List ℕ → Option (List ℕ)
behind_quote q [] = none
behind_quote q (c ∷ s) = on_closed (over q c) (some s) (behind_quote (over q c) s)

-- behind an inner text and a quote
pub closes : (s t : List ℕ) → Inner s → behind_quote between (s ++ (34 ∷ t)) ≡ some t
unfolding over choose
closes s t h = go between s h
  where
    done : (s : List ℕ) → goes closed s ≢ between
    done [] e = let z : ◌≡◌ {A = ℕ} 0 1 = cc in omega arith
    done (c ∷ s) e = done s e

    step : (q : Quote) (s : List ℕ) → goes q s ≡ between → (behind_quote q (s ++ (34 ∷ t)) ≡ some t) → on_closed q (some (s ++ (34 ∷ t))) (behind_quote q (s ++ (34 ∷ t))) ≡ some t
    step between s e r = r
    step behind s e r = r
    step closed s e r = absurd (done s e)

    go : (q : Quote) (s : List ℕ) → goes q s ≡ between → behind_quote q (s ++ (34 ∷ t)) ≡ some t
    go q [] e = rw e
    go q (c ∷ s) e = step (over q c) s e (go (over q c) s e)
