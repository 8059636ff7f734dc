-- The reader in a field's or variant's type: paths, words, and what stands around them. Assumes nothing.
use Prim.Native.Nat.{ℕ, zero, suc}
use Rattle.std.specs.Prelude.{◌≡◌, Bool, ◌||◌, ◌⊎◌, eqb}
use Rattle.std.proofs.Math.Path.{refl, sym}
use Rattle.std.proofs.Common.{ap, subst, ◌∙◌, inl, inr, eqb-true}
use Rattle.std.proofs.Math.Bool.{true, false}
use mathlib.Core.List.{List, [], ◌∷◌, ◌++◌, append_assoc}
use Rattle.base.specs.Choose.{choose}
use Rattle.base.specs.Tests.{or_cases}
use Rattle.heck.specs.Case.{between}
use Rattle.ident.specs.Name.{name_start, name_part}
use Rattle.extern_paths.specs.ExternPaths.{Segment}
use Rattle.descriptor.specs.Descriptor.{Bytes}
use Rattle.code_generator.specs.Piece.{piece, ◌◃◌, raw, extern, path, Ref, Way, spelt, comma, wrap_close, lit}
use Rattle.sights.specs.Events.{close_field, close_wrap}
use Rattle.text_reader.specs.Symbols.{Symbol, char}
use Rattle.text_reader.specs.Tokens.{Token, sign, code, code_word, tokens_from}
use Rattle.text_reader.specs.Reader.{path_of, Body, start, typed, read_tokens}
use Rattle.reading.specs.Reading.{Point, point, Reads, Stop, stop_point, Settled, Ends, ends_there, from_settled}
use Rattle.reading.specs.Words.{is_word, in_code, through_word}
use Rattle.reading.specs.Paths.{GoodWay, names_of, through_way, path_again}

-- what ends a path in a type: `>`, `,` and `)`
abbrev pub ends_type : ℕ → Bool
ends_type c = eqb c 62 || (eqb c 44 || eqb c 41)

-- so many `<` deep, behind a path
abbrev pub type_stop : List Body → ℕ → Stop
type_stop bs d = record { bodies = bs; at = typed d true []; lexing = code; ends = ends_type }

-- where a type begins
abbrev pub type_start : List Body → ℕ → Point
type_start bs d = point bs (typed d false []) code

-- ---- behind a path it is as if the path had been seen
end_cases : (P : ℕ → Type 0) → P 62 → P 44 → P 41 → (c : ℕ) → ends_type c ≡ true → P c
end_cases P x y z c h = on (or_cases (eqb c 62) (eqb c 44 || eqb c 41) h)
  where
    two : (eqb c 44 ≡ true) ⊎ (eqb c 41 ≡ true) → P c
    two (inl e) = subst P (sym (eqb-true c 44 e)) y
    two (inr e) = subst P (sym (eqb-true c 41 e)) z

    on : (eqb c 62 ≡ true) ⊎ ((eqb c 44 || eqb c 41) ≡ true) → P c
    on (inl e) = subst P (sym (eqb-true c 62 e)) x
    on (inr e) = two (or_cases (eqb c 44) (eqb c 41) e)

module _ (bs : List Body) (foreign : Bool) (names : List Bytes) where
  at_comma : (d : ℕ) (ts : List Token) → read_tokens bs (typed d foreign names) (sign 44 ∷ ts) ≡ path_of foreign names ++ read_tokens bs (typed d true []) (sign 44 ∷ ts)
  unfolding choose
  at_comma zero ts = append_assoc (path_of foreign names) (close_field ∷ []) (read_tokens bs start ts)
  at_comma (suc d) ts = refl

  settles_code : (d c : ℕ) → ends_type c ≡ true → (s : List Symbol)
      → read_tokens bs (typed d foreign names) (tokens_from code (char c ∷ s)) ≡ path_of foreign names ++ read_tokens bs (typed d true []) (tokens_from code (char c ∷ s))
  unfolding choose name_part name_start between
  settles_code d c h =
      end_cases (λ (c : ℕ). (s : List Symbol) → read_tokens bs (typed d foreign names) (tokens_from code (char c ∷ s)) ≡ path_of foreign names ++ read_tokens bs (typed d true []) (tokens_from code (char c ∷ s)))
      (λ s. append_assoc (path_of foreign names) (close_wrap ∷ []) _) (λ s. at_comma d (tokens_from code s)) (λ s. append_assoc (path_of foreign names) (close_field ∷ []) _) c h

-- a word that ends there
word_over : (bs : List Body) (foreign : Bool) (names : List Bytes) (d : ℕ) (w : Bytes) (c : ℕ) → ends_type c ≡ true → (s : List Symbol)
    → read_tokens bs (typed d foreign names) (tokens_from (code_word w) (char c ∷ s)) ≡ read_tokens bs (typed d foreign (w ∷ names)) (tokens_from code (char c ∷ s))
unfolding choose name_part name_start between
word_over bs foreign names d w c h =
    end_cases (λ (c : ℕ). (s : List Symbol) → read_tokens bs (typed d foreign names) (tokens_from (code_word w) (char c ∷ s)) ≡ read_tokens bs (typed d foreign (w ∷ names)) (tokens_from code (char c ∷ s)))
    (λ s. refl) (λ s. refl) (λ s. refl) c h

-- the names of a path, and a last one
abbrev pub behind_path : List Body → ℕ → Bool → List Bytes → Bytes → Point
behind_path bs d foreign names w = record { bodies = bs; at = typed d foreign names; lexing = code_word w; owed = path_of foreign (w ∷ names) }

module _ {bs : List Body} {d : ℕ} where
  pub settled_word : (foreign : Bool) (names : List Bytes) (w : Bytes) → Settled (type_stop bs d) (behind_path bs d foreign names w)
  settled_word foreign names w =
      record { settles = λ c h s. word_over bs foreign names d w c h s ∙ settles_code bs foreign (w ∷ names) d c h s }

  pub typed_path : (r : Ref) (w : Way) → GoodWay w → Ends (type_start bs d) (piece (path r w)) (type_stop bs d)
  unfolding choose
  typed_path r w h =
      record {
        end = behind_path bs d false (names_of w) (spelt w.last);
        reads = record { seen = []; onward = λ s. through_way in_code (typed d false) (λ w ts ns. refl) (λ w ts ns. refl) w h s; complete = sym (path_again w h) };
        settled = settled_word false (names_of w) (spelt w.last);
      }

  pub typed_extern : (xs : List Segment) → Ends (type_start bs d) (piece (extern xs)) (type_stop bs d)
  typed_extern xs = ends_there (record { seen = []; onward = λ s. refl; complete = refl })

  -- a word that is no path
  pub typed_word : (w : Bytes) → is_word w ≡ true → path_of false (w ∷ []) ≡ [] → Ends (type_start bs d) (piece (raw w)) (type_stop bs d)
  typed_word w h e =
      record {
        end = behind_path bs d false [] w;
        reads = record { seen = []; onward = λ s. ap (read_tokens bs (typed d false [])) (through_word in_code w h s); complete = sym e };
        settled = settled_word false [] w;
      }

  -- no word at all
  pub typed_none : Ends (type_start bs d) (piece (raw [])) (type_stop bs d)
  typed_none =
      record {
        end = type_start bs d;
        reads = record { seen = []; onward = λ s. refl; complete = refl };
        settled = record { settles = λ c h s. settles_code bs false [] d c h s };
      }

-- ---- what stands behind
module _ {bs : List Body} {p : Point} where
  pub wrap_closed : {d : ℕ} → Settled (type_stop bs (suc d)) p → Reads p (lit ">" ◃ wrap_close) (stop_point (type_stop bs d))
  unfolding choose name_part name_start between
  wrap_closed h = from_settled h (λ s. refl) refl (record { seen = close_wrap ∷ []; onward = λ s. refl; complete = refl })

  -- a map's key
  pub key_closed : {d : ℕ} → Settled (type_stop bs (suc d)) p → Reads p (lit ", ") (type_start bs (suc d))
  unfolding choose name_part name_start between
  key_closed h = from_settled h (λ s. refl) refl (record { seen = []; onward = λ s. refl; complete = refl })

  pub field_closed : Settled (type_stop bs 0) p → Reads p (lit ",\n" ◃ comma) (point bs start code)
  unfolding choose name_part name_start between
  field_closed h = from_settled h (λ s. refl) refl (record { seen = close_field ∷ []; onward = λ s. refl; complete = refl })

  pub variant_closed : Settled (type_stop bs 0) p → Reads p (lit "),\n" ◃ comma) (point bs start code)
  unfolding choose name_part name_start between
  variant_closed h = from_settled h (λ s. refl) refl (record { seen = close_field ∷ []; onward = λ s. refl; complete = refl })
