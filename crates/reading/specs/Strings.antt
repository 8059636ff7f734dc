-- The reader in strings, comments and numbers: it sees nothing there. Assumes nothing.
use Rattle.std.specs.Prelude.{ℕ, ◌+◌, ◌-◌, ◌/◌, ◌%◌, ◌^◌, Bool, ◌&&◌, not, ◌⊎◌, leb, ltb}
use native.Mathlib.Omega.{arith}
use Rattle.std.proofs.Math.Path.{◌≡◌, refl, ap, subst}
use Rattle.std.proofs.Common.{sym, ◌∙◌, inl, inr, eqb-true}
use Rattle.std.proofs.Math.Bool.{true, false}
use mathlib.Core.List.{List, [], ◌∷◌, ◌++◌}
use Rattle.std.proofs.Math.Dec.{eqb}
use Rattle.std.proofs.lemmas.Bool.{not-true}
use Rattle.base.specs.Choose.{choose}
use Rattle.base.specs.Tests.{bool_cases, both_ways, and_left, and_right, and_both, or_left}
use Rattle.writer.specs.Text.{pick}
use Rattle.writer.specs.Decimal.{digits, decimal, signed}
use Rattle.writer.specs.Denotes.{all_digits, digits_all}
use Rattle.heck.specs.Case.{between}
use Rattle.ident.specs.Name.{name_start, name_part, every}
use Rattle.ident.proofs.EveryLaws.{every_cons, every_head, every_tail}
use Rattle.literal.specs.Quotes.{Quote, between as inside, behind, closed, over, goes, Inner}
use Rattle.descriptor.specs.Descriptor.{Bytes}
use Rattle.code_generator.specs.Piece.{Piece, piece, raw}
use Rattle.text_reader.specs.Symbols.{Symbol, char, chars, piece_symbols}
use Rattle.text_reader.specs.Tokens.{Lexing, code, code_word, string, string_word, escape, comment, is_blank, goes_on, tokens_from}
use Rattle.text_reader.specs.Reader.{Body, At, discriminant, skipped, read_tokens}
use Rattle.reading.specs.Reading.{point, shown, Reads, Stop, Settled, Ends, settled_there}
use Rattle.reading.specs.Words.{is_word, in_code, in_string, through_word, word_read}

-- ---- in a string that is skipped
abbrev pub ends_word : ℕ → Bool
ends_word c = not (goes_on c)

abbrev pub string_stop : List Body → At → Stop
string_stop bs q = record { bodies = bs; at = skipped q; lexing = string; ends = ends_word }

module _ {bs : List Body} {q : At} where
  settled_string : (w : Bytes) → Settled (string_stop bs q) (point bs (skipped q) (string_word w))
  unfolding choose
  settled_string w = record { settles = λ c h s. rw (not-true (goes_on c) h) }

  -- a word there: a name that shows nothing, a number
  pub string_name : (p : Piece) (n : Bytes) → piece_symbols p ≡ chars n → shown (p ∷ []) ≡ [] → is_word n ≡ true
      → Ends (point bs (skipped q) string) (piece p) (string_stop bs q)
  string_name p n e f h =
      record {
        end = point bs (skipped q) (string_word n);
        reads =
            record {
              seen = [];
              onward = λ s.
                  ap (λ (z : List Symbol). read_tokens bs (skipped q) (tokens_from string (z ++ s))) e
                  ∙ ap (read_tokens bs (skipped q)) (through_word in_string n h s);
              complete = f;
            };
        settled = settled_string n;
      }

-- ---- a text that may stand between quotes
data Within : Quote → Lexing → Type 0 where
  at_string : Within inside string
  at_word : (w : Bytes) → Within inside (string_word w)
  at_escape : Within behind escape

module _ (bs : List Body) (q : At) where
  -- through a text to a place within the string
  record Skips (l : Lexing) (x : Bytes) (k : Quote) : Type 0 where
    next : Lexing
    within : Within k next
    on : (s : List Symbol) → read_tokens bs (skipped q) (tokens_from l (chars x ++ s)) ≡ read_tokens bs (skipped q) (tokens_from next s)

  -- one character that is neither a quote nor `\`
  plain_char : (c : ℕ) → eqb c 34 ≡ false → eqb c 92 ≡ false → Skips string (c ∷ []) inside
  unfolding choose
  plain_char c e f = on (bool_cases (name_part c)) (bool_cases (is_blank c))
    where
      on : (name_part c ≡ true) ⊎ (name_part c ≡ false) → (is_blank c ≡ true) ⊎ (is_blank c ≡ false) → Skips string (c ∷ []) inside
      on (inl g) h = record { next = string_word (c ∷ []); within = at_word (c ∷ []); on = λ s. rw g }
      on (inr g) (inl h) = record { next = string; within = at_string; on = λ s. rw (g, h) }
      on (inr g) (inr h) = record { next = string; within = at_string; on = λ s. rw (g, h, e, f) }

  escape_char : Skips string (92 ∷ []) behind
  unfolding choose name_part name_start between
  escape_char = record { next = escape; within = at_escape; on = λ s. refl }

  -- behind a word of the string, as behind none; or the word goes on
  word_char : (w : Bytes) (c : ℕ) (k : Quote) → Skips string (c ∷ []) k → goes_on c ≡ false → Skips (string_word w) (c ∷ []) k
  unfolding choose
  word_char w c k r e = record { next = r.next; within = r.within; on = λ s. rw e (r.on s) }

  longer : (w : Bytes) (c : ℕ) → goes_on c ≡ true → Skips (string_word w) (c ∷ []) inside
  unfolding choose
  longer w c e = record { next = string_word (w ++ (c ∷ [])); within = at_word (w ++ (c ∷ [])); on = λ s. rw e }

  from_string : (c : ℕ) → (over inside c ≡ closed → ⊥) → Skips string (c ∷ []) (over inside c)
  unfolding over choose
  from_string c h = on (eqb c 92) (eqb c 34) refl refl h
    where
      on : (a d : Bool) → eqb c 92 ≡ a → eqb c 34 ≡ d → (choose a behind (choose d closed inside) ≡ closed → ⊥) → Skips string (c ∷ []) (choose a behind (choose d closed inside))
      on true d e f h = subst (λ (z : ℕ). Skips string (z ∷ []) behind) (sym (eqb-true c 92 e)) escape_char
      on false true e f h = absurd (h refl)
      on false false e f h = plain_char c f e

  letter_inside : (c : ℕ) → goes_on c ≡ true → inside ≡ over inside c
  unfolding over choose name_part name_start between
  letter_inside c h = on (eqb c 92) (eqb c 34) refl refl
    where
      on : (a d : Bool) → eqb c 92 ≡ a → eqb c 34 ≡ d → inside ≡ choose a behind (choose d closed inside)
      on true d e f = both_ways (subst (λ (z : ℕ). goes_on z ≡ true) (eqb-true c 92 e) h) refl
      on false true e f = both_ways (subst (λ (z : ℕ). goes_on z ≡ true) (eqb-true c 34 f) h) refl
      on false false e f = refl

  from_word : (w : Bytes) (c : ℕ) → (over inside c ≡ closed → ⊥) → Skips (string_word w) (c ∷ []) (over inside c)
  from_word w c h = on (bool_cases (goes_on c))
    where
      on : (goes_on c ≡ true) ⊎ (goes_on c ≡ false) → Skips (string_word w) (c ∷ []) (over inside c)
      on (inl e) = subst (λ (k : Quote). Skips (string_word w) (c ∷ []) k) (letter_inside c e) (longer w c e)
      on (inr e) = word_char w c (over inside c) (from_string c h) e

  one_char : (k : Quote) (l : Lexing) (c : ℕ) → Within k l → (over k c ≡ closed → ⊥) → Skips l (c ∷ []) (over k c)
  unfolding over
  one_char k l c at_string h = from_string c h
  one_char k l c (at_word w) h = from_word w c h
  one_char k l c at_escape h = record { next = string; within = at_string; on = λ s. refl }

  never : (x : Bytes) → goes closed x ≡ inside → ⊥
  unfolding over
  never [] e = let z : ◌≡◌ {A = ℕ} 0 1 = cc in omega arith
  never (c ∷ x) e = never x e

  all_chars : (x : Bytes) (k : Quote) (l : Lexing) → Within k l → goes k x ≡ inside → Skips l x inside
  all_chars [] k l i e = record { next = l; within = subst (λ (z : Quote). Within z l) e i; on = λ s. refl }
  all_chars (c ∷ x) k l i e =
      let r = one_char k l c i (λ f. never x (ap (λ (z : Quote). goes z x) (sym f) ∙ e)) in
      let t = all_chars x (over k c) r.next r.within e in
      record { next = t.next; within = t.within; on = λ s. r.on (chars x ++ s) ∙ t.on s }

  settled_within : {l : Lexing} → Within inside l → Settled (string_stop bs q) (point bs (skipped q) l)
  settled_within at_string = settled_there
  settled_within (at_word w) = settled_string w

pub string_text : {bs : List Body} {q : At} (x : Bytes) → Inner x → Ends (point bs (skipped q) string) (piece (raw x)) (string_stop bs q)
string_text {bs} {q} x h =
    let r = all_chars bs q x inside string at_string h in
    record {
      end = point bs (skipped q) r.next;
      reads = record { seen = []; onward = r.on; complete = refl };
      settled = settled_within bs q r.within;
    }

-- ---- numbers
digit_part : (c : ℕ) → (leb 48 c && leb c 57) ≡ true → name_part c ≡ true
unfolding name_part between
digit_part c h = or_left (name_start c) h

digits_go_on : (ds : Bytes) → all_digits ds ≡ true → every goes_on ds ≡ true
unfolding every
digits_go_on [] h = refl
digits_go_on (d ∷ ds) h =
    every_cons goes_on d ds (or_left (eqb d 35) (digit_part d (and_left (leb 48 d && leb d 57) (all_digits ds) h)))
    (digits_go_on ds (and_right (leb 48 d && leb d 57) (all_digits ds) h))

last_digit_word : (ds : Bytes) (d : ℕ) → all_digits (ds ++ (d ∷ [])) ≡ true → is_word (ds ++ (d ∷ [])) ≡ true
unfolding every
last_digit_word [] d h = and_both (digit_part d (and_left (leb 48 d && leb d 57) true h)) refl
last_digit_word (x ∷ ds) d h =
    and_both (digit_part x (and_left (leb 48 x && leb x 57) (all_digits (ds ++ (d ∷ []))) h))
    (digits_go_on (ds ++ (d ∷ [])) (and_right (leb 48 x && leb x 57) (all_digits (ds ++ (d ∷ []))) h))

pub decimal_word : (n : ℕ) → is_word (decimal n) ≡ true
unfolding digits
decimal_word n = last_digit_word (pick (ltb n 10) [] (digits 9 (n / 10))) (48 + n % 10) (digits_all 10 n)

-- ---- a variant's number
abbrev pub number_stop : List Body → Stop
number_stop bs = record { bodies = bs; at = discriminant; lexing = code; ends = λ c. eqb c 44 }

module _ {bs : List Body} where
  settled_number : (w : Bytes) → Settled (number_stop bs) (point bs discriminant (code_word w))
  unfolding choose name_part name_start between
  settled_number w =
      record {
        settles = λ c h.
            subst (λ (c : ℕ). (s : List Symbol) → read_tokens bs discriminant (tokens_from (code_word w) (char c ∷ s)) ≡ read_tokens bs discriminant (tokens_from code (char c ∷ s)))
            (sym (eqb-true c 44 h)) (λ s. refl);
      }

  pub number_read : (n : ℕ) → Ends (point bs discriminant code) (piece (raw (signed n))) (number_stop bs)
  unfolding signed choose name_part name_start between
  number_read n = on (ltb n (2 ^ 31))
    where
      on : (t : Bool) → Ends (point bs discriminant code) (piece (raw (pick t (decimal n) ((45 ∷ []) ++ decimal (2 ^ 32 - n))))) (number_stop bs)
      on true = record { end = point bs discriminant (code_word (decimal n)); reads = word_read in_code (raw (decimal n)) (decimal n) refl (decimal_word n); settled = settled_number (decimal n) }
      on false =
          record {
            end = point bs discriminant (code_word (decimal (2 ^ 32 - n)));
            reads = record { seen = []; onward = λ s. ap (read_tokens bs discriminant) (through_word in_code (decimal (2 ^ 32 - n)) (decimal_word (2 ^ 32 - n)) s); complete = refl };
            settled = settled_number (decimal (2 ^ 32 - n));
          }

-- ---- a name in a comment
no_line_end : (c : ℕ) → name_part c ≡ true → eqb c 10 ≡ false
unfolding name_part name_start between
no_line_end c h = on (bool_cases (eqb c 10))
  where
    on : (eqb c 10 ≡ true) ⊎ (eqb c 10 ≡ false) → eqb c 10 ≡ false
    on (inl e) = both_ways (subst (λ (z : ℕ). name_part z ≡ true) (eqb-true c 10 e) h) refl
    on (inr e) = e

in_comment : (x : Bytes) → every name_part x ≡ true → (s : List Symbol) → tokens_from comment (chars x ++ s) ≡ tokens_from comment s
unfolding choose
in_comment [] h s = refl
in_comment (c ∷ x) h s = rw (no_line_end c (every_head name_part c x h)) (in_comment x (every_tail name_part c x h) s)

pub comment_read : {bs : List Body} {q : At} (x : Bytes) → every name_part x ≡ true → Reads (point bs q comment) (piece (raw x)) (point bs q comment)
comment_read {bs} {q} x h = record { seen = []; onward = λ s. ap (read_tokens bs q) (in_comment x h s); complete = refl }
