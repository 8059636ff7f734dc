-- The reader goes through a path name by name, and finds the path again. Assumes nothing.
use Prim.Native.Nat.{ℕ, zero, suc, ◌+◌}
use Rattle.std.proofs.Common.{arith, ◌∙◌}
use Rattle.std.specs.Prelude.{◌≡◌, true, false}
use Rattle.std.proofs.Math.Path.{refl, ap}
use Rattle.std.proofs.Math.Option.{none}
use mathlib.Core.List.{List, [], ◌∷◌, ◌++◌, map, reverse, reverse_aux, reverse_aux-reverse_aux-nil}
use Rattle.base.specs.Bytes.{b, same}
use Rattle.base.specs.Choose.{choose}
use Rattle.base.specs.Lists.{Every}
use Rattle.base.specs.Tests.{or_false_left, or_false_right}
use Rattle.writer.specs.Text.{each}
use Rattle.heck.specs.Case.{between}
use Rattle.ident.specs.Name.{name_start, name_part, every, has_word}
use Rattle.ident.specs.Ident.{among, kept_words, to_snake}
use Rattle.ident.specs.Reference.{primitive_types}
use Rattle.ident.proofs.Written.{snake_identifier, snake_free}
use Rattle.descriptor.specs.Descriptor.{Bytes}
use Rattle.code_generator.specs.Piece.{Way, through, way_text, spelt}
use Rattle.sights.specs.Events.{Event, meet_path, written_path}
use Rattle.text_reader.specs.Symbols.{Symbol, char, chars, chars_append}
use Rattle.text_reader.specs.Tokens.{Token, word, sign, Lexing, tokens_from}
use Rattle.text_reader.specs.Reader.{path_through, path_of, Body, At, read_tokens}
use Rattle.reading.specs.Words.{is_word, identifier_word, Mode, through_word}

-- what a path is written from: names that convert
pub record GoodWay (w : Way) : Type 0 where
  pub modules : Every (λ (m : Bytes). has_word m ≡ true) w.modules
  pub last_word : is_word (spelt w.last) ≡ true
  pub last_free : among (spelt w.last) primitive_types ≡ false

-- ---- its names, the last one first
abbrev supers : ℕ → List Bytes → List Bytes
supers zero ns = ns
supers (suc k) ns = b "super" ∷ supers k ns

-- those before the last
abbrev pub names_of : Way → List Bytes
names_of w = reverse_aux (map to_snake w.modules) (supers w.supers [])

module _ {l : Lexing} {in_word : Bytes → Lexing} (mode : Mode l in_word) {bs : List Body} (Q : List Bytes → At)
    (takes : (w : Bytes) (ts : List Token) (ns : List Bytes) → read_tokens bs (Q ns) (word w ∷ ts) ≡ read_tokens bs (Q (w ∷ ns)) ts)
    (passes : (w : Bytes) (ts : List Token) (ns : List Bytes) → read_tokens bs (Q (w ∷ ns)) (sign 58 ∷ ts) ≡ read_tokens bs (Q (w ∷ ns)) ts) where
  through_one : (m : Bytes) → is_word m ≡ true → (ns : List Bytes) (s : List Symbol)
      → read_tokens bs (Q ns) (tokens_from l (chars m ++ (char 58 ∷ (char 58 ∷ s)))) ≡ read_tokens bs (Q (m ∷ ns)) (tokens_from l s)
  through_one m h ns s =
      ap (read_tokens bs (Q ns)) (through_word mode m h (char 58 ∷ (char 58 ∷ s)) ∙ mode.colon_word m (char 58 ∷ s))
      ∙ takes m (sign 58 ∷ tokens_from l (char 58 ∷ s)) ns
      ∙ passes m (tokens_from l (char 58 ∷ s)) ns
      ∙ ap (read_tokens bs (Q (m ∷ ns))) (mode.colon s)
      ∙ passes m (tokens_from l s) ns

  through_supers : (k : ℕ) (ns : List Bytes) (s : List Symbol)
      → read_tokens bs (Q ns) (tokens_from l (chars (each (λ _. b "super::") k) ++ s)) ≡ read_tokens bs (Q (supers k ns)) (tokens_from l s)
  unfolding name_part name_start between every choose
  through_supers zero ns s = refl
  through_supers (suc k) ns s =
      ap (λ (z : List Symbol). read_tokens bs (Q ns) (tokens_from l z)) (chars_append (each (λ _. b "super::") k) (b "super::") s)
      ∙ through_supers k ns (chars (b "super::") ++ s)
      ∙ through_one (b "super") refl (supers k ns) s

  through_modules : (ms : List Bytes) → Every (λ (m : Bytes). has_word m ≡ true) ms → (ns : List Bytes) (s : List Symbol)
      → read_tokens bs (Q ns) (tokens_from l (chars (through ms) ++ s)) ≡ read_tokens bs (Q (reverse_aux (map to_snake ms) ns)) (tokens_from l s)
  unfolding through
  through_modules [] h ns s = refl
  through_modules (m ∷ ms) h ns s =
      ap (λ (z : List Symbol). read_tokens bs (Q ns) (tokens_from l z))
      (chars_append (to_snake m ++ b "::") (through ms) s ∙ chars_append (to_snake m) (b "::") (chars (through ms) ++ s))
      ∙ through_one (to_snake m) (identifier_word (to_snake m) (snake_identifier m h.0)) ns (chars (through ms) ++ s)
      ∙ through_modules ms h.1 (to_snake m ∷ ns) s

  pub through_way : (w : Way) → GoodWay w → (s : List Symbol)
      → read_tokens bs (Q []) (tokens_from l (chars (way_text w) ++ s)) ≡ read_tokens bs (Q (names_of w)) (tokens_from (in_word (spelt w.last)) s)
  unfolding way_text
  through_way w h s =
      ap (λ (z : List Symbol). read_tokens bs (Q []) (tokens_from l z))
      (chars_append (each (λ _. b "super::") w.supers ++ through w.modules) (spelt w.last) s
      ∙ chars_append (each (λ _. b "super::") w.supers) (through w.modules) (chars (spelt w.last) ++ s))
      ∙ through_supers w.supers [] (chars (through w.modules) ++ (chars (spelt w.last) ++ s))
      ∙ through_modules w.modules h.modules (supers w.supers []) (chars (spelt w.last) ++ s)
      ∙ ap (read_tokens bs (Q (names_of w))) (through_word mode (spelt w.last) h.last_word s)

-- ---- the path again
abbrev a_path : ℕ → List Bytes → Bytes → Event
a_path k ms x = meet_path none (record { supers = k; modules = ms; last = x })

no_super : (m : Bytes) → same (to_snake m) (b "super") ≡ false
unfolding among kept_words
no_super m =
    or_false_left (same (to_snake m) (b "super")) (among (to_snake m) (b "self" ∷ b "Self" ∷ b "extern" ∷ b "crate" ∷ []))
    (or_false_right (same (to_snake m) (b "_")) (among (to_snake m) (b "super" ∷ b "self" ∷ b "Self" ∷ b "extern" ∷ b "crate" ∷ [])) (snake_free m))

supers_behind : (k : ℕ) (ns : List Bytes) → supers k (b "super" ∷ ns) ≡ b "super" ∷ supers k ns
supers_behind zero ns = refl
supers_behind (suc k) ns = ap {B = List Bytes} (λ (z : List Bytes). b "super" ∷ z) (supers_behind k ns)

turned : (k : ℕ) (ms : List Bytes) → reverse_aux (supers k []) ms ≡ supers k ms
turned zero ms = refl
turned (suc k) ms = turned k (b "super" ∷ ms) ∙ supers_behind k ms

counted : (k j : ℕ) (ms : List Bytes) (x : Bytes) → path_through j (supers k (map to_snake ms)) x ≡ a_path (k + j) (map to_snake ms) x
unfolding same choose
counted zero j [] x = ap (λ (n : ℕ). a_path n [] x) (let z : j ≡ 0 + j = omega arith in z)
counted zero j (m ∷ ms) x = rw (no_super m) (ap (λ (n : ℕ). a_path n (map to_snake (m ∷ ms)) x) (let z : j ≡ 0 + j = omega arith in z))
counted (suc k) j ms x = counted k (suc j) ms x ∙ ap (λ (n : ℕ). a_path n (map to_snake ms) x) (let z : k + suc j ≡ suc k + j = omega arith in z)

found : (k : ℕ) (ms : List Bytes) (x : Bytes) → among x primitive_types ≡ false → (ns : List Bytes) → reverse ns ≡ supers k (map to_snake ms)
    → path_of false (x ∷ ns) ≡ a_path k (map to_snake ms) x ∷ []
unfolding choose
found k ms x h (n ∷ ns) e =
    ap {B = List Event} (λ (z : Event). z ∷ [])
    (ap (λ (z : List Bytes). path_through 0 z x) e ∙ counted k 0 ms x ∙ ap (λ (n : ℕ). a_path n (map to_snake ms) x) (let z : k + 0 ≡ k = omega arith in z))
found zero ms x h [] e = rw h (ap {B = List Event} (λ (z : List Bytes). a_path 0 z x ∷ []) e)
found (suc k) ms x h [] e = absurd (let z : ◌≡◌ {A = ℕ} 0 1 = cc in omega arith)

pub path_again : (w : Way) → GoodWay w → path_of false (spelt w.last ∷ names_of w) ≡ meet_path none (written_path w) ∷ []
path_again w h =
    found w.supers w.modules (spelt w.last) h.last_free (names_of w)
    (reverse_aux-reverse_aux-nil (map to_snake w.modules) (supers w.supers []) ∙ turned w.supers (map to_snake w.modules))
