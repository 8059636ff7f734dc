-- The reader goes through a name as one word, and through an indent as through nothing. Assumes nothing.
use Rattle.std.specs.Prelude.{ℕ, zero, suc, ◌≡◌, refl, Bool, true, false, ◌&&◌, not, ◌⊎◌, List, [], ◌∷◌, ◌++◌, eqb, take, drop}
use Rattle.std.proofs.Common.{sym, ap, subst, ◌∙◌, inl, inr, append_assoc, append-nil, take-append-drop}
use Rattle.base.specs.Bytes.{b, same, same_sound}
use Rattle.base.specs.Choose.{choose}
use Rattle.base.specs.Tests.{and_left, and_right, and_both, or_left, or_right, or_cases, both_ways}
use Rattle.writer.specs.Text.{indent}
use Rattle.heck.specs.Case.{between, is_digit}
use Rattle.ident.specs.Name.{name_start, name_part, every, is_name}
use Rattle.ident.specs.Ident.{among}
use Rattle.ident.specs.Reference.{keywords, never_raw, non_keyword_identifier, raw_identifier, identifier}
use Rattle.ident.proofs.EveryLaws.{every_cons, every_head, every_tail, every_append, every_also}
use Rattle.descriptor.specs.Descriptor.{Bytes}
use Rattle.code_generator.specs.Piece.{Piece, piece, push_indent}
use Rattle.text_reader.specs.Symbols.{Symbol, char, chars, chars_append, piece_symbols}
use Rattle.text_reader.specs.Tokens.{word, sign, Lexing, code, code_word, string, string_word, goes_on, tokens_from}
use Rattle.text_reader.specs.Reader.{Body, At, read_tokens}
use Rattle.reading.specs.Reading.{point, shown, Reads}

-- ---- words
abbrev pub is_word : Bytes → Bool
is_word [] = false
is_word (c ∷ s) = name_part c && every goes_on s

start_part : (c : ℕ) → name_start c ≡ true → name_part c ≡ true
unfolding name_part
start_part c h = or_right (is_digit c) h

pub name_parts : (x : Bytes) → is_name x ≡ true → every name_part x ≡ true
unfolding is_name
name_parts [] h = both_ways h refl
name_parts (c ∷ s) h =
    every_cons name_part c s (start_part c (and_left (name_start c) (every name_part s) h)) (and_right (name_start c) (every name_part s) h)

parts_go_on : (x : Bytes) → every name_part x ≡ true → every goes_on x ≡ true
parts_go_on x h = every_also name_part goes_on (λ c e. or_left (eqb c 35) e) x h

pub name_word : (x : Bytes) → is_name x ≡ true → is_word x ≡ true
unfolding is_name
name_word [] h = h
name_word (c ∷ s) h =
    and_both (start_part c (and_left (name_start c) (every name_part s) h)) (parts_go_on s (and_right (name_start c) (every name_part s) h))

raw_word : (x : Bytes) → take 2 x ≡ b "r#" → is_name (drop 2 x) ≡ true → is_word x ≡ true
unfolding name_part name_start between
raw_word x e h =
    subst (λ (z : Bytes). is_word z ≡ true) (take-append-drop 2 x)
    (rw e (every_cons goes_on 35 (drop 2 x) refl (parts_go_on (drop 2 x) (name_parts (drop 2 x) h))))

pub identifier_word : (x : Bytes) → identifier x ≡ true → is_word x ≡ true
unfolding identifier non_keyword_identifier raw_identifier
identifier_word x h = on (or_cases (is_name x && not (among x keywords)) (raw_identifier x) h)
  where
    on : ((is_name x && not (among x keywords)) ≡ true) ⊎ (raw_identifier x ≡ true) → is_word x ≡ true
    on (inl e) = name_word x (and_left (is_name x) (not (among x keywords)) e)
    on (inr e) =
        raw_word x (same_sound (take 2 x) (b "r#") (and_left (same (take 2 x) (b "r#")) (is_name (drop 2 x) && not (among (drop 2 x) never_raw)) e))
        (and_left (is_name (drop 2 x)) (not (among (drop 2 x) never_raw))
        (and_right (same (take 2 x) (b "r#")) (is_name (drop 2 x) && not (among (drop 2 x) never_raw)) e))

pub word_append : (x y : Bytes) → is_word x ≡ true → every goes_on y ≡ true → is_word (x ++ y) ≡ true
word_append [] y h k = both_ways h refl
word_append (c ∷ x) y h k =
    and_both (and_left (name_part c) (every goes_on x) h) (every_append goes_on x y (and_right (name_part c) (every goes_on x) h) k)

-- ---- in code and in a string alike
pub record Mode (l : Lexing) (in_word : Bytes → Lexing) : Type 0 where
  pub begins : (c : ℕ) → name_part c ≡ true → (s : List Symbol) → tokens_from l (char c ∷ s) ≡ tokens_from (in_word (c ∷ [])) s
  pub goes : (w : Bytes) (c : ℕ) → goes_on c ≡ true → (s : List Symbol) → tokens_from (in_word w) (char c ∷ s) ≡ tokens_from (in_word (w ++ (c ∷ []))) s
  pub colon : (s : List Symbol) → tokens_from l (char 58 ∷ s) ≡ sign 58 ∷ tokens_from l s
  pub colon_word : (w : Bytes) (s : List Symbol) → tokens_from (in_word w) (char 58 ∷ s) ≡ word w ∷ (sign 58 ∷ tokens_from l s)

pub in_code : Mode code code_word
unfolding choose name_part name_start between
in_code = record { begins = λ c e s. rw e; goes = λ w c e s. rw e; colon = λ s. refl; colon_word = λ w s. refl }

pub in_string : Mode string string_word
unfolding choose name_part name_start between
in_string = record { begins = λ c e s. rw e; goes = λ w c e s. rw e; colon = λ s. refl; colon_word = λ w s. refl }

module _ {l : Lexing} {in_word : Bytes → Lexing} (mode : Mode l in_word) where
  goes_through : (w n : Bytes) → every goes_on n ≡ true → (s : List Symbol) → tokens_from (in_word w) (chars n ++ s) ≡ tokens_from (in_word (w ++ n)) s
  goes_through w [] h s = ap (λ (z : Bytes). tokens_from (in_word z) s) (sym (append-nil w))
  goes_through w (c ∷ n) h s =
      mode.goes w c (every_head goes_on c n h) (chars n ++ s)
      ∙ goes_through (w ++ (c ∷ [])) n (every_tail goes_on c n h) s
      ∙ ap (λ (z : Bytes). tokens_from (in_word z) s) (append_assoc w (c ∷ []) n)

  pub through_word : (n : Bytes) → is_word n ≡ true → (s : List Symbol) → tokens_from l (chars n ++ s) ≡ tokens_from (in_word n) s
  through_word [] h s = both_ways h refl
  through_word (c ∷ n) h s =
      mode.begins c (and_left (name_part c) (every goes_on n) h) (chars n ++ s) ∙ goes_through (c ∷ []) n (and_right (name_part c) (every goes_on n) h) s

  -- a piece that is a name
  pub word_read : {bs : List Body} {q : At} (p : Piece) (n : Bytes) → piece_symbols p ≡ chars n → is_word n ≡ true
      → Reads (point bs q l) (piece p) (record { bodies = bs; at = q; lexing = in_word n; owed = shown (p ∷ []) })
  word_read {bs} {q} p n e h =
      record {
        seen = [];
        onward = λ s. ap (λ (z : List Symbol). read_tokens bs q (tokens_from l (z ++ s))) e ∙ ap (read_tokens bs q) (through_word n h s);
        complete = refl;
      }

-- ---- an indent
blanks : (d : ℕ) (s : List Symbol) → tokens_from code (chars (indent d) ++ s) ≡ tokens_from code s
unfolding indent choose name_part name_start between
blanks zero s = refl
blanks (suc d) s = ap (tokens_from code) (chars_append (indent d) (b "    ") s) ∙ blanks d (chars (b "    ") ++ s)

pub indent_read : {bs : List Body} {q : At} (d : ℕ) → Reads (point bs q code) (push_indent d) (point bs q code)
indent_read {bs} {q} d = record { seen = []; onward = λ s. ap (read_tokens bs q) (blanks d s); complete = refl }
