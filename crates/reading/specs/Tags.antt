-- The reader in a field's tag: the word of its type, and a path in quotes or brackets. Assumes nothing.
use Rattle.std.specs.Prelude.{ℕ, ◌≡◌, refl, Bool, ◌&&◌, ◌||◌, ◌⊎◌, eqb}
use Rattle.std.proofs.Common.{sym, subst, inl, inr, eqb-true}
use Rattle.std.proofs.Math.Path.{ap}
use Rattle.std.proofs.Math.Bool.{true, false}
use mathlib.Core.List.{List, [], ◌∷◌, ◌++◌}
use Rattle.base.specs.Choose.{choose}
use Rattle.base.specs.Tests.{both_ways, and_left, and_right, or_cases}
use Rattle.heck.specs.Case.{between}
use Rattle.ident.specs.Name.{name_start, name_part}
use Rattle.extern_paths.specs.ExternPaths.{Segment}
use Rattle.descriptor.specs.Descriptor.{Bytes}
use Rattle.code_generator.specs.Piece.{Text, piece, either, ◌▹◌, ◌◃◌, raw, extern, path, Ref, Way, spelt, tag_open, tag_close}
use Rattle.sights.specs.Events.{Event, open_tag, close_tag}
use Rattle.text_reader.specs.Symbols.{Symbol, char}
use Rattle.text_reader.specs.Tokens.{Token, word, sign, value, code, code_word, string, string_word, tokens_from}
use Rattle.text_reader.specs.Reader.{tagged_path, Body, Key, path_key, map_key, other_key, key_of, At, attribute, skipped, tag_path, map_tag, map_path, read_tokens}
use Rattle.reading.specs.Reading.{point, Stop, Settled, Ends, ends_there, ends_as}
use Rattle.reading.specs.Words.{is_word, in_code, in_string, through_word}
use Rattle.reading.specs.Paths.{GoodWay, names_of, through_way, path_again}

-- ---- a word
-- a word of a tag that no path follows, or none
abbrev is_other : Key → Bool
is_other path_key = false
is_other map_key = false
is_other other_key = true

abbrev pub is_tag_word : Bytes → Bool
is_tag_word [] = true
is_tag_word (c ∷ w) = is_word (c ∷ w) && is_other (key_of (c ∷ w))

other : (k : Key) → is_other k ≡ true → k ≡ other_key
other path_key h = both_ways h refl
other map_key h = both_ways h refl
other other_key h = refl

-- in an attribute, two brackets deep: `,` or a blank follows
abbrev pub attribute_stop : List Body → Stop
attribute_stop bs = record { bodies = bs; at = attribute 1 other_key; lexing = code; ends = λ c. eqb c 44 || eqb c 32 }

-- in a map's tag: `,` or the quote follows
abbrev pub map_stop : List Body → Stop
map_stop bs = record { bodies = bs; at = map_tag 1 other_key; lexing = string; ends = λ c. eqb c 44 || eqb c 34 }

one_of : (x y : ℕ) (P : ℕ → Type 0) → P x → P y → (c : ℕ) → (eqb c x || eqb c y) ≡ true → P c
one_of x y P p q c h = on (or_cases (eqb c x) (eqb c y) h)
  where
    on : (eqb c x ≡ true) ⊎ (eqb c y ≡ true) → P c
    on (inl e) = subst P (sym (eqb-true c x e)) p
    on (inr e) = subst P (sym (eqb-true c y e)) q

module _ {bs : List Body} where
  pub settled_attribute : (w : Bytes) → key_of w ≡ other_key → Settled (attribute_stop bs) (point bs (attribute 1 other_key) (code_word w))
  unfolding choose name_part name_start between
  settled_attribute w e =
      record {
        settles =
            one_of 44 32
            (λ (c : ℕ). (s : List Symbol) → read_tokens bs (attribute 1 other_key) (tokens_from (code_word w) (char c ∷ s)) ≡ read_tokens bs (attribute 1 other_key) (tokens_from code (char c ∷ s)))
            (λ s. refl) (λ s. ap (λ (k : Key). read_tokens bs (attribute 1 k) (tokens_from code s)) e);
      }

  pub attribute_word : (w : Bytes) → is_tag_word w ≡ true → Ends (point bs (attribute 1 other_key) code) (piece (raw w)) (attribute_stop bs)
  attribute_word [] h = ends_there (record { seen = []; onward = λ s. refl; complete = refl })
  attribute_word (c ∷ w) h =
      record {
        end = point bs (attribute 1 other_key) (code_word (c ∷ w));
        reads = record { seen = []; onward = λ s. ap (read_tokens bs (attribute 1 other_key)) (through_word in_code (c ∷ w) (and_left (is_word (c ∷ w)) (is_other (key_of (c ∷ w))) h) s); complete = refl };
        settled = settled_attribute (c ∷ w) (other (key_of (c ∷ w)) (and_right (is_word (c ∷ w)) (is_other (key_of (c ∷ w))) h));
      }

  settled_map : (w : Bytes) → Settled (map_stop bs) (point bs (map_tag 1 other_key) (string_word w))
  unfolding choose name_part name_start between
  settled_map w =
      record {
        settles =
            one_of 44 34
            (λ (c : ℕ). (s : List Symbol) → read_tokens bs (map_tag 1 other_key) (tokens_from (string_word w) (char c ∷ s)) ≡ read_tokens bs (map_tag 1 other_key) (tokens_from string (char c ∷ s)))
            (λ s. refl) (λ s. refl);
      }

  pub map_word : (w : Bytes) → is_tag_word w ≡ true → Ends (point bs (map_tag 1 other_key) string) (piece (raw w)) (map_stop bs)
  map_word [] h = ends_there (record { seen = []; onward = λ s. refl; complete = refl })
  map_word (c ∷ w) h =
      record {
        end = point bs (map_tag 1 other_key) (string_word (c ∷ w));
        reads = record { seen = []; onward = λ s. ap (read_tokens bs (map_tag 1 other_key)) (through_word in_string (c ∷ w) (and_left (is_word (c ∷ w)) (is_other (key_of (c ∷ w))) h) s); complete = refl };
        settled = settled_map (c ∷ w);
      }

-- ---- a path, between the marks of a tag
abbrev pub in_tag : Text → Text
in_tag x = (tag_open ▹ x) ◃ tag_close

module _ {bs : List Body} (Q : Bool → List Bytes → At) (g : Stop)
    (takes : (w : Bytes) (ts : List Token) (ns : List Bytes) → read_tokens bs (Q false ns) (word w ∷ ts) ≡ read_tokens bs (Q false (w ∷ ns)) ts)
    (passes : (w : Bytes) (ts : List Token) (ns : List Bytes) → read_tokens bs (Q false (w ∷ ns)) (sign 58 ∷ ts) ≡ read_tokens bs (Q false (w ∷ ns)) ts)
    (takes_value : (ts : List Token) → read_tokens bs (Q false []) (value ∷ ts) ≡ read_tokens bs (Q true []) ts)
    (settled_name : (ns : List Bytes) (w : Bytes) → Settled g (record { bodies = bs; at = Q false ns; lexing = string_word w; owed = tagged_path false (w ∷ ns) }))
    (settled_value : Settled g (record { bodies = bs; at = Q true []; lexing = string; owed = tagged_path true [] })) where
  a_way : (r : Ref) (w : Way) → GoodWay w → Ends (point bs (Q false []) string) (in_tag (piece (path r w))) g
  a_way r w h =
      record {
        end = record { bodies = bs; at = Q false (names_of w); lexing = string_word (spelt w.last); owed = tagged_path false (spelt w.last ∷ names_of w) };
        reads = record { seen = []; onward = λ s. through_way in_string (Q false) takes passes w h s; complete = ap {B = List Event} (λ (z : List Event). open_tag ∷ (z ++ (close_tag ∷ []))) (sym (path_again w h)) };
        settled = settled_name (names_of w) (spelt w.last);
      }

  a_value : (xs : List Segment) → Ends (point bs (Q false []) string) (in_tag (piece (extern xs))) g
  a_value xs =
      record {
        end = record { bodies = bs; at = Q true []; lexing = string; owed = tagged_path true [] };
        reads = record { seen = []; onward = λ s. takes_value (tokens_from string s); complete = refl };
        settled = settled_value;
      }

  path_or_value : (t : Bool) (xs : List Segment) (r : Ref) (w : Way) → (t ≡ false → GoodWay w)
      → Ends (point bs (Q false []) string) (in_tag (either t (piece (extern xs)) (piece (path r w)))) g
  path_or_value true xs r w h = ends_as refl (a_value xs)
  path_or_value false xs r w h = ends_as refl (a_way r w (h refl))

-- in quotes: the quote follows
abbrev pub quoted_stop : List Body → Stop
quoted_stop bs = record { bodies = bs; at = skipped (attribute 1 other_key); lexing = string; ends = λ c. eqb c 34 }

-- in the brackets of a map's tag: the bracket follows
abbrev pub bracket_stop : List Body → Stop
bracket_stop bs = record { bodies = bs; at = map_tag 1 other_key; lexing = string; ends = λ c. eqb c 41 }

is_only : (x : ℕ) (P : ℕ → Type 0) → P x → (c : ℕ) → eqb c x ≡ true → P c
is_only x P p c h = subst P (sym (eqb-true c x h)) p

module _ {bs : List Body} (t : Bool) (xs : List Segment) (r : Ref) (w : Way) (h : t ≡ false → GoodWay w) where
  pub quoted_path : Ends (point bs (tag_path 1 false []) string) (in_tag (either t (piece (extern xs)) (piece (path r w)))) (quoted_stop bs)
  unfolding choose name_part name_start between
  quoted_path =
      path_or_value (tag_path 1) (quoted_stop bs) (λ w ts ns. refl) (λ w ts ns. refl) (λ ts. refl)
      (λ ns w. record {
        settles =
            is_only 34
            (λ (c : ℕ). (s : List Symbol) → read_tokens bs (tag_path 1 false ns) (tokens_from (string_word w) (char c ∷ s)) ≡ tagged_path false (w ∷ ns) ++ read_tokens bs (skipped (attribute 1 other_key)) (tokens_from string (char c ∷ s)))
            (λ s. refl);
      })
      (record {
        settles =
            is_only 34
            (λ (c : ℕ). (s : List Symbol) → read_tokens bs (tag_path 1 true []) (tokens_from string (char c ∷ s)) ≡ tagged_path true [] ++ read_tokens bs (skipped (attribute 1 other_key)) (tokens_from string (char c ∷ s)))
            (λ s. refl);
      })
      t xs r w h

  pub bracket_path : Ends (point bs (map_path 1 false []) string) (in_tag (either t (piece (extern xs)) (piece (path r w)))) (bracket_stop bs)
  unfolding choose name_part name_start between
  bracket_path =
      path_or_value (map_path 1) (bracket_stop bs) (λ w ts ns. refl) (λ w ts ns. refl) (λ ts. refl)
      (λ ns w. record {
        settles =
            is_only 41
            (λ (c : ℕ). (s : List Symbol) → read_tokens bs (map_path 1 false ns) (tokens_from (string_word w) (char c ∷ s)) ≡ tagged_path false (w ∷ ns) ++ read_tokens bs (map_tag 1 other_key) (tokens_from string (char c ∷ s)))
            (λ s. refl);
      })
      (record {
        settles =
            is_only 41
            (λ (c : ℕ). (s : List Symbol) → read_tokens bs (map_path 1 true []) (tokens_from string (char c ∷ s)) ≡ tagged_path true [] ++ read_tokens bs (map_tag 1 other_key) (tokens_from string (char c ∷ s)))
            (λ s. refl);
      })
      t xs r w h
