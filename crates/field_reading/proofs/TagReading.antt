-- What the reader sees in a field's tag: an enumeration's path, and no default's text. Assumes nothing.
use Rattle.std.specs.Prelude.{◌≡◌, ℕ, Bool, true, false, ◌||◌, List, [], ◌==◌, nat_eq}
use Rattle.std.proofs.Math.Path.{refl}
use Rattle.std.proofs.Math.Option.{Option, some, none}
use Rattle.base.specs.Bytes.{b, same}
use Rattle.base.specs.Choose.{choose}
use Rattle.base.specs.Tests.{both_ways, or_right}
use Rattle.writer.specs.Decimal.{decimal}
use Rattle.heck.specs.Case.{between}
use Rattle.ident.specs.Name.{name_start, name_part}
use Rattle.literal.specs.Escape.{escape_text, escape_bytes}
use Rattle.literal.specs.Quotes.{inner_text, inner_bytes}
use Rattle.c_escaping.specs.Unescape.{unescaped}
use Rattle.field_types.specs.Types.{sort_of, tag_word, bytes, group, message, enumerated}
use Rattle.descriptor.specs.Descriptor.{Bytes, FieldDescriptor}
use Rattle.collections.specs.Collections.{map_type as map_type_of, map_annotation, bytes_type as bytes_type_of, bytes_annotation as bytes_word}
use Rattle.options.specs.Settings.{Setting, strips_prefix}
use Rattle.extern_paths.specs.Split.{split}
use Rattle.extern_paths.specs.ExternPaths.{taken, resolve_ident as extern_ident}
use Rattle.name_rules.specs.Accessors.{text, number, label, type as type_of}
use Rattle.code_generator.specs.Piece.{Text, piece, ◌⟫◌, when, raw, name, type, spelt, lit}
use Rattle.code_generator.specs.Resolve.{last_name, way, resolve_ident, tag_ident, field_type_tag, map_value_type_tag}
use Rattle.code_generator.specs.Fields.{optional, unpacked, label_tag, bytes_annotation, enum_value, default_text, default_given, default_tag, field_tag}
use Rattle.code_generator.specs.MapFields.{MapEntry, map_tag}
use Rattle.text_reader.specs.Tokens.{code, code_word}
use Rattle.text_reader.specs.Tokens as tokens
use Rattle.text_reader.specs.Reader.{Body, start, other_key, attribute, tag_path, map_path}
use Rattle.text_reader.specs.Reader as reader
use Rattle.reading.specs.Reading.{Point, point, Reads, Stop, stop_point, Settled, Ends, ends_there, ◌▹▹◌, ends_then, from_settled, ends_from, stays, ends_as, ends_when, ends_either, after}
use Rattle.reading.specs.Strings.{string_stop, string_name, string_text, decimal_word}
use Rattle.reading.specs.Tags.{attribute_stop, settled_attribute, attribute_word, map_stop, map_word, quoted_stop, quoted_path, bracket_stop, bracket_path}
use Rattle.field_reading.specs.Readable.{Converts, ReadableField, tag_words, variant_word, good_way}

-- in a tag, and in a string of it
abbrev pub tag_start : List Body → Point
tag_start bs = point bs (attribute 1 other_key) code

abbrev pub tag_string : List Body → Stop
tag_string bs = string_stop bs (attribute 1 other_key)

module _ (rs : List Setting) {bs : List Body} (scope : Bytes) (f : FieldDescriptor) (h : ReadableField f) where
  -- ---- the type
  quoted_ident : nat_eq (sort_of (type_of f)) enumerated ≡ true → Ends (point bs (tag_path 1 false []) tokens.string) (tag_ident rs scope f) (quoted_stop bs)
  unfolding tag_ident resolve_ident
  quoted_ident e =
      quoted_path (taken rs (text f.type_name)) (extern_ident rs (text f.type_name)) (type (text f.type_name)) (way scope (text f.type_name))
      (λ _. good_way scope (text f.type_name) (h.target (or_right (sort_of (type_of f) == group || sort_of (type_of f) == message) e)))

  bracket_ident : nat_eq (sort_of (type_of f)) enumerated ≡ true → Ends (point bs (map_path 1 false []) tokens.string) (tag_ident rs scope f) (bracket_stop bs)
  unfolding tag_ident resolve_ident
  bracket_ident e =
      bracket_path (taken rs (text f.type_name)) (extern_ident rs (text f.type_name)) (type (text f.type_name)) (way scope (text f.type_name))
      (λ _. good_way scope (text f.type_name) (h.target (or_right (sort_of (type_of f) == group || sort_of (type_of f) == message) e)))

  pub type_tag : Ends (tag_start bs) (field_type_tag rs scope f) (attribute_stop bs)
  unfolding field_type_tag choose same name_part name_start between
  type_tag =
      ends_either (sort_of (type_of f) == enumerated)
      (λ e. ends_there (after (opens ▹▹ quoted_ident e) (λ p g. from_settled g (λ s. refl) refl (record { seen = []; onward = λ s. refl; complete = refl }))))
      (λ _. attribute_word (tag_word (type_of f)) (tag_words (type_of f)))
    where
      opens : Reads (tag_start bs) (lit "enumeration = \"") (point bs (tag_path 1 false []) tokens.string)
      opens = record { seen = []; onward = λ s. refl; complete = refl }

  map_value_tag : Ends (stop_point (map_stop bs)) (map_value_type_tag rs scope f) (map_stop bs)
  unfolding map_value_type_tag field_type_tag choose same name_part name_start between
  map_value_tag =
      ends_either (sort_of (type_of f) == enumerated)
      (λ e. ends_there (after (opens ▹▹ bracket_ident e) (λ p g. from_settled g (λ s. refl) refl (record { seen = []; onward = λ s. refl; complete = refl }))))
      (λ e. ends_either (sort_of (type_of f) == enumerated) (λ d. both_ways d e) (λ _. map_word (tag_word (type_of f)) (tag_words (type_of f))))
    where
      opens : Reads (stop_point (map_stop bs)) (lit "enumeration(") (point bs (map_path 1 false []) tokens.string)
      opens = record { seen = []; onward = λ s. refl; complete = refl }

-- a map's key names no declaration
map_key_tag : (rs : List Setting) {bs : List Body} (scope : Bytes) (f : FieldDescriptor) → (sort_of (type_of f) == enumerated) ≡ false
    → Ends (stop_point (map_stop bs)) (field_type_tag rs scope f) (map_stop bs)
unfolding field_type_tag
map_key_tag rs scope f e =
    ends_either (sort_of (type_of f) == enumerated) (λ d. both_ways d e) (λ _. map_word (tag_word (type_of f)) (tag_words (type_of f)))

-- ---- what follows the type
module _ {bs : List Body} where
  one_word : (w : Bytes) (x : Text) → Reads (tag_start bs) x (point bs (attribute 1 other_key) (code_word w)) → reader.key_of w ≡ other_key → Ends (tag_start bs) x (attribute_stop bs)
  one_word w x r e = record { end = point bs (attribute 1 other_key) (code_word w); reads = r; settled = settled_attribute w e }

  a_string : (x : Text) → Reads (tag_start bs) x (tag_start bs) → Ends (tag_start bs) x (attribute_stop bs)
  a_string x r = ends_there r

  module _ {p : Point} (g : Settled (attribute_stop bs) p) where
    annotation : (f : FieldDescriptor) (as_bytes : Bool) → Ends p (bytes_annotation f as_bytes) (attribute_stop bs)
    unfolding bytes_annotation choose same name_part name_start between
    annotation f as_bytes = ends_when (sort_of (type_of f) == bytes) g (ends_from g (λ s. refl) refl (a_string _ (quoted as_bytes)))
      where
        quoted : (t : Bool) → Reads (tag_start bs) (lit " = \"" ⟫ piece (raw (bytes_word (bytes_type_of t))) ⟫ lit "\"") (tag_start bs)
        quoted true = record { seen = []; onward = λ s. refl; complete = refl }
        quoted false = record { seen = []; onward = λ s. refl; complete = refl }

    boxed_tag : (boxed : Bool) → Ends p (when boxed (lit ", boxed")) (attribute_stop bs)
    unfolding choose same name_part name_start between
    boxed_tag boxed =
        ends_when boxed g (ends_from g (λ s. refl) refl (one_word (b "boxed") (lit ", boxed") (record { seen = []; onward = λ s. refl; complete = refl }) refl))

  packed_tag : {p : Point} → Settled (attribute_stop bs) p → (t : Bool) → Ends p (when t (lit ", packed = \"false\"")) (attribute_stop bs)
  unfolding choose same name_part name_start between
  packed_tag g t = ends_when t g (ends_from g (λ s. refl) refl (a_string (lit ", packed = \"false\"") (record { seen = []; onward = λ s. refl; complete = refl })))

  label_read : {p : Point} → Settled (attribute_stop bs) p → (proto3 : Bool) (f : FieldDescriptor) → Ends p (label_tag proto3 f) (attribute_stop bs)
  unfolding label_tag choose same name_part name_start between
  label_read g proto3 f =
      ends_either (label f == 1)
      (λ _. ends_when (optional proto3 f) g
      (ends_from g (λ s. refl) refl (one_word (b "optional") (lit ", optional") (record { seen = []; onward = λ s. refl; complete = refl }) refl)))
      (λ _. ends_either (label f == 2)
      (λ _. ends_from g (λ s. refl) refl (one_word (b "required") (lit ", required") (record { seen = []; onward = λ s. refl; complete = refl }) refl))
      (λ _. ends_then
      (ends_from g (λ s. refl) refl (one_word (b "repeated") (lit ", repeated") (record { seen = []; onward = λ s. refl; complete = refl }) refl))
      (λ p g. packed_tag g (unpacked proto3 f))))

  -- ---- the number, and the end
  pub number_opened : {p : Point} → Settled (attribute_stop bs) p → Reads p (lit ", tag = \"") (stop_point (tag_string bs))
  unfolding choose same name_part name_start between
  number_opened g = from_settled g (λ s. refl) refl (record { seen = []; onward = λ s. refl; complete = refl })

  pub number_in : (n : ℕ) → Ends (stop_point (tag_string bs)) (piece (raw (decimal n))) (tag_string bs)
  number_in n = string_name (raw (decimal n)) (decimal n) refl refl (decimal_word n)

  pub tag_closed : {p : Point} → Settled (tag_string bs) p → Reads p (lit "\")]\n") (point bs start code)
  unfolding choose same name_part name_start between
  tag_closed g = from_settled g (λ s. refl) refl (record { seen = []; onward = λ s. refl; complete = refl })

-- ---- a default
module _ (rs : List Setting) {bs : List Body} (f : FieldDescriptor) (h : ReadableField f) where
  default_in : (v : Bytes) → ((sort_of (type_of f) == enumerated) ≡ true → Converts v) → Ends (stop_point (tag_string bs)) (default_text rs f v) (tag_string bs)
  unfolding default_text enum_value choose same name_part name_start between
  default_in v c =
      ends_either (sort_of (type_of f) == bytes)
      (λ _. ends_then (opens ▹▹ string_text (escape_bytes (unescaped v)) (inner_bytes (unescaped v)))
      (λ p g. ends_from g (λ s. refl) refl (ends_there (record { seen = []; onward = λ s. refl; complete = refl }))))
      (λ _. ends_either (sort_of (type_of f) == enumerated)
      (λ e. string_name (name (enum_value rs f v)) (spelt (enum_value rs f v)) refl refl
      (variant_word (strips_prefix rs) (last_name (split (b ".") (text f.type_name))) v (c e)))
      (λ _. string_text (escape_text v) (inner_text v)))
    where
      opens : Reads (stop_point (tag_string bs)) (lit "b\\\"") (stop_point (tag_string bs))
      opens = record { seen = []; onward = λ s. refl; complete = refl }

  default_read : {p : Point} → Settled (tag_string bs) p → Ends p (default_tag rs f) (tag_string bs)
  unfolding default_tag choose same name_part name_start between
  default_read {p} g = on f.default_value (λ v e c. h.default c v e)
    where
      opens : Reads p (lit "\", default = \"") (stop_point (tag_string bs))
      opens = from_settled g (λ s. refl) refl (record { seen = []; onward = λ s. refl; complete = refl })

      on : (o : Option Bytes) → ((v : Bytes) → o ≡ some v → (sort_of (type_of f) == enumerated) ≡ true → Converts v) → Ends p (default_given rs f o) (tag_string bs)
      on none c = ends_as refl (stays g)
      on (some v) c = ends_as refl (opens ▹▹ default_in v (c v refl))

  pub tag_read : (proto3 : Bool) (scope : Bytes) (boxed as_bytes : Bool) → Reads (tag_start bs) (field_tag rs proto3 scope f boxed as_bytes) (point bs start code)
  unfolding field_tag
  tag_read proto3 scope boxed as_bytes =
      after
      (ends_then
      (after
      (ends_then (ends_then (ends_then (type_tag rs scope f h) (λ p g. annotation g f as_bytes)) (λ p g. label_read g proto3 f)) (λ p g. boxed_tag g boxed))
      (λ p g. number_opened g)
      ▹▹ number_in (number f))
      (λ p g. default_read g))
      (λ p g. tag_closed g)

-- ---- a map's tag
module _ (rs : List Setting) {bs : List Body} (scope : Bytes) (f : FieldDescriptor) (e : MapEntry) where
  pub map_tag_read : nat_eq (sort_of (type_of e.key)) enumerated ≡ false → ReadableField e.value → (btree : Bool) → Reads (tag_start bs) (map_tag rs scope f e btree) (point bs start code)
  unfolding map_tag choose same name_part name_start between
  map_tag_read k h btree =
      after
      (after
      (after (opens btree ▹▹ map_key_tag rs scope e.key k) (λ p g. comma g) ▹▹ map_value_tag rs scope e.value h)
      (λ p g. from_settled g (λ s. refl) refl (record { seen = []; onward = λ s. refl; complete = refl }))
      ▹▹ number_in (number f))
      (λ p g. tag_closed g)
    where
      opens : (t : Bool) → Reads (tag_start bs) (piece (raw (map_annotation (map_type_of t))) ⟫ lit " = \"") (stop_point (map_stop bs))
      opens true = record { seen = []; onward = λ s. refl; complete = refl }
      opens false = record { seen = []; onward = λ s. refl; complete = refl }

      comma : {p : Point} → Settled (map_stop bs) p → Reads p (lit ", ") (stop_point (map_stop bs))
      comma g = from_settled g (λ s. refl) refl (record { seen = []; onward = λ s. refl; complete = refl })
