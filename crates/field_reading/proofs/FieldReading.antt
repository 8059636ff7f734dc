-- What the reader sees in a field, a map field, a oneof's field and a oneof's variant. Assumes nothing.
use Rattle.std.specs.Prelude.{◌≡◌, ℕ, Bool, false, List, [], ◌∷◌, nat_eq}
use Rattle.std.proofs.Math.Path.{refl}
use Rattle.std.proofs.Math.Option.{Option, some, none}
use Rattle.base.specs.Bytes.{same}
use Rattle.base.specs.Choose.{choose}
use Rattle.base.specs.Lists.{Every}
use Rattle.heck.specs.Case.{between}
use Rattle.ident.specs.Name.{name_start, name_part}
use Rattle.ident.specs.Ident.{to_snake, to_upper_camel}
use Rattle.field_types.specs.Types.{sort_of, enumerated}
use Rattle.descriptor.specs.Descriptor.{Bytes, FieldDescriptor, FileDescriptor}
use Rattle.options.specs.Settings.{Setting}
use Rattle.name_rules.specs.Accessors.{text, number, type as type_of}
use Rattle.name_rules.specs.FullNames.{◌·◌}
use Rattle.context.specs.Context.{field_attributes, bytes_type, map_type, should_box_message_field, should_box_oneof_field}
use Rattle.code_generator.specs.Piece.{piece, ◌⟫◌, when, opaque, label, Owned, snake, camel, choice, lit, push_indent}
use Rattle.code_generator.specs.Attributes.{line, attributes, deprecated, append_deprecated, append_field_attributes}
use Rattle.code_generator.specs.Fields.{field_line, append_field}
use Rattle.code_generator.specs.MapFields.{MapEntry, map_line, append_map_field}
use Rattle.code_generator.specs.Oneofs.{OneofField, type_name, more_tags, tags, oneof_tag, oneof_line, append_oneof_field, append_oneof_fields, variant_tag, variant_line, append_variant, append_variants}
use Rattle.sights.specs.Events.{open_field}
use Rattle.text_reader.specs.Tokens.{code, code_word}
use Rattle.text_reader.specs.Tokens as tokens
use Rattle.text_reader.specs.Reader.{Body, struct_body, enum_body, start, public, tag_path}
use Rattle.reading.specs.Reading.{Point, point, Reads, ◌▸◌, still, reads_when, mark_last, stop_point, Settled, Ends, ends_there, ◌▹▹◌, ends_then, from_settled, stays, ends_as, after}
use Rattle.reading.specs.Words.{in_code, word_read, indent_read}
use Rattle.reading.specs.Paths.{GoodWay}
use Rattle.reading.specs.Types.{type_start, typed_path, wrap_closed, key_closed, field_closed, variant_closed}
use Rattle.reading.specs.Tags.{quoted_path}
use Rattle.field_reading.specs.Readable.{Converts, ReadableField, snake_word, camel_word, oneof_word, oneof_free}
use Rattle.field_reading.specs.TypeReading.{type_read, box_opened, box_closed, shape_opened, shape_closed, option_opens, map_opens}
use Rattle.field_reading.proofs.TagReading.{tag_start, tag_string, type_tag, number_opened, number_in, tag_closed, tag_read, map_tag_read}

-- between two items, fields or variants
abbrev pub between_two : List Body → Point
between_two bs = point bs start code

-- ---- the lines before
module _ {bs : List Body} where
  line_end : Reads (between_two bs) (lit "\n") (between_two bs)
  unfolding choose name_part name_start between
  line_end = record { seen = []; onward = λ s. refl; complete = refl }

  option_read : (v : Bytes) → Reads (between_two bs) (piece (opaque v)) (between_two bs)
  unfolding choose
  option_read v = record { seen = []; onward = λ s. refl; complete = refl }

  pub attributes_read : (d : ℕ) (vs : List Bytes) → Reads (between_two bs) (attributes d vs) (between_two bs)
  unfolding attributes
  attributes_read d [] = still
  attributes_read d (v ∷ vs) = indent_read d ▸ option_read v ▸ line_end ▸ attributes_read d vs

  field_attributes_read : (rs : List Setting) (d : ℕ) (full name : Bytes) → Reads (between_two bs) (append_field_attributes rs d full name) (between_two bs)
  unfolding append_field_attributes
  field_attributes_read rs d full name = attributes_read d (field_attributes rs full name)

  pub deprecated_read : (d : ℕ) (t : Bool) → Reads (between_two bs) (when t (line d "#[deprecated]\n")) (between_two bs)
  unfolding choose same name_part name_start between
  deprecated_read d t = reads_when t (indent_read d ▸ here)
    where
      here : Reads (between_two bs) (lit "#[deprecated]\n") (between_two bs)
      here = record { seen = []; onward = λ s. refl; complete = refl }

  field_deprecated : (d : ℕ) (f : FieldDescriptor) → Reads (between_two bs) (append_deprecated d f) (between_two bs)
  unfolding append_deprecated
  field_deprecated d f = deprecated_read d (deprecated f)

  prost_opened : (d : ℕ) → Reads (between_two bs) (line d "#[prost(") (tag_start bs)
  unfolding choose same name_part name_start between
  prost_opened d = indent_read d ▸ here
    where
      here : Reads (between_two bs) (lit "#[prost(") (tag_start bs)
      here = record { seen = []; onward = λ s. refl; complete = refl }

-- ---- a field's name, up to its type
module _ {bs : List Body} (d : ℕ) (o : Option Owned) (n : Bytes) (h : Converts n) where
  field_labelled : Reads (between_two (struct_body ∷ bs)) (line d "pub " ⟫ piece (label o (snake n)) ⟫ lit ": ") (type_start (struct_body ∷ bs) 0)
  unfolding choose same name_part name_start between
  field_labelled = indent_read d ▸ keyword ▸ word_read in_code (label o (snake n)) (to_snake n) refl (snake_word n h) ▸ colon
    where
      keyword : Reads (between_two (struct_body ∷ bs)) (lit "pub ") (point (struct_body ∷ bs) public code)
      keyword = record { seen = []; onward = λ s. refl; complete = refl }

      colon : Reads (record { bodies = struct_body ∷ bs; at = public; lexing = code_word (to_snake n); owed = open_field none (to_snake n) ∷ [] }) (lit ": ") (type_start (struct_body ∷ bs) 0)
      colon = record { seen = open_field none (to_snake n) ∷ []; onward = λ s. refl; complete = refl }

  variant_labelled : Reads (between_two (enum_body ∷ bs)) (push_indent d ⟫ piece (label o (camel n)) ⟫ lit "(") (type_start (enum_body ∷ bs) 0)
  unfolding choose same name_part name_start between
  variant_labelled = indent_read d ▸ word_read in_code (label o (camel n)) (to_upper_camel n) refl (camel_word n h) ▸ bracket
    where
      bracket : Reads (record { bodies = enum_body ∷ bs; at = start; lexing = code_word (to_upper_camel n); owed = open_field none (to_upper_camel n) ∷ [] }) (lit "(") (type_start (enum_body ∷ bs) 0)
      bracket = record { seen = open_field none (to_upper_camel n) ∷ []; onward = λ s. refl; complete = refl }

-- ---- a field
module _ (rs : List Setting) {bs : List Body} (d : ℕ) (scope full : Bytes) (f : FieldDescriptor) (h : ReadableField f) where
  line_read : (proto3 boxed as_bytes : Bool) → Reads (between_two (struct_body ∷ bs)) (field_line rs proto3 d scope full f boxed as_bytes) (between_two (struct_body ∷ bs))
  unfolding field_line
  line_read proto3 boxed as_bytes =
      mark_last
      (after
      (ends_then
      (ends_then
      (field_labelled d (some (record { message = full; field = f })) (text f.name) h.named
      ▸ shape_opened rs proto3 f
      ▸ box_opened rs boxed
      ▹▹ type_read rs scope f h as_bytes)
      (λ p g. box_closed boxed g))
      (λ p g. shape_closed proto3 f g))
      (λ p g. field_closed g))

  pub field_read : (set : List FileDescriptor) (proto3 : Bool) → Reads (between_two (struct_body ∷ bs)) (append_field rs set proto3 d scope full f) (between_two (struct_body ∷ bs))
  unfolding append_field
  field_read set proto3 =
      field_deprecated d f
      ▸ prost_opened d
      ▸ tag_read rs f h proto3 scope (should_box_message_field rs set full f) (bytes_type rs full (text f.name))
      ▸ field_attributes_read rs d full (text f.name)
      ▸ line_read proto3 (should_box_message_field rs set full f) (bytes_type rs full (text f.name))

  -- ---- a variant of a oneof's enum
  variant_line_read : (boxed as_bytes : Bool) → Reads (between_two (enum_body ∷ bs)) (variant_line rs d scope full f boxed as_bytes) (between_two (enum_body ∷ bs))
  unfolding variant_line
  variant_line_read boxed as_bytes =
      mark_last
      (after
      (ends_then
      (variant_labelled d (some (record { message = full; field = f })) (text f.name) h.named ▸ box_opened rs boxed ▹▹ type_read rs scope f h as_bytes)
      (λ p g. box_closed boxed g))
      (λ p g. variant_closed g))

  variant_tag_read : Reads (tag_start (enum_body ∷ bs)) (variant_tag rs scope f) (between_two (enum_body ∷ bs))
  unfolding variant_tag
  variant_tag_read = after (after (type_tag rs scope f h) (λ p g. number_opened g) ▹▹ number_in (number f)) (λ p g. tag_closed g)

module _ (rs : List Setting) (set : List FileDescriptor) {bs : List Body} (d : ℕ) (full : Bytes) (x : OneofField) where
  variant_read : (f : FieldDescriptor) → ReadableField f → Reads (between_two (enum_body ∷ bs)) (append_variant rs set d full x f) (between_two (enum_body ∷ bs))
  unfolding append_variant
  variant_read f h =
      field_deprecated d f
      ▸ prost_opened d
      ▸ variant_tag_read rs d full full f h
      ▸ field_attributes_read rs d (full · x.name) (text f.name)
      ▸ variant_line_read rs d full full f h (should_box_oneof_field rs set full x.name f) (bytes_type rs full (text f.name))

  pub variants_read : (fs : List FieldDescriptor) → Every ReadableField fs → Reads (between_two (enum_body ∷ bs)) (append_variants rs set d full x fs) (between_two (enum_body ∷ bs))
  unfolding append_variants
  variants_read [] h = still
  variants_read (f ∷ fs) h = variant_read f h.0 ▸ variants_read fs h.1

-- ---- a map field
module _ (rs : List Setting) {bs : List Body} (d : ℕ) (scope full : Bytes) (f : FieldDescriptor) (e : MapEntry)
    (n : Converts (text f.name)) (k : ReadableField e.key) (v : ReadableField e.value) where
  map_line_read : (btree key_bytes value_bytes : Bool) → Reads (between_two (struct_body ∷ bs)) (map_line rs d scope full f e btree key_bytes value_bytes) (between_two (struct_body ∷ bs))
  unfolding map_line
  map_line_read btree key_bytes value_bytes =
      mark_last
      (after
      (ends_there
      (after
      (after (field_labelled d (some (record { message = full; field = f })) (text f.name) n ▸ map_opens rs btree ▹▹ type_read rs scope e.key k key_bytes) (λ p g. key_closed g)
      ▹▹ type_read rs scope e.value v value_bytes)
      (λ p g. wrap_closed g)))
      (λ p g. field_closed g))

  pub map_read : nat_eq (sort_of (type_of e.key)) enumerated ≡ false → Reads (between_two (struct_body ∷ bs)) (append_map_field rs d scope full f e) (between_two (struct_body ∷ bs))
  unfolding append_map_field
  map_read scalar =
      prost_opened d
      ▸ map_tag_read rs scope f e scalar v (map_type rs full (text f.name))
      ▸ field_attributes_read rs d full (text f.name)
      ▸ map_line_read (map_type rs full (text f.name)) (bytes_type rs full (text e.key.name)) (bytes_type rs full (text e.value.name))

-- ---- a oneof's field
pub record ReadableOneof (x : OneofField) : Type 0 where
  pub named : Converts x.name
  pub fields : Every ReadableField x.fields

oneof_way : (message : Bytes) → Converts message → (x : OneofField) → Converts x.name → GoodWay (record { supers = 0; modules = message ∷ []; last = type_name x })
oneof_way message m x n =
    record { modules = (m, tt); last_word = oneof_word x.has_type_name_conflict x.name n; last_free = oneof_free x.has_type_name_conflict x.name }

module _ {bs : List Body} where
  more_read : {p : Point} → Settled (tag_string bs) p → (fs : List FieldDescriptor) → Ends p (more_tags fs) (tag_string bs)
  unfolding more_tags choose name_part name_start between
  more_read g [] = stays g
  more_read {p} g (f ∷ fs) = ends_then (comma g ▹▹ number_in (number f)) (λ p g. more_read g fs)
    where
      comma : Settled (tag_string bs) p → Reads p (lit ", ") (stop_point (tag_string bs))
      comma g = from_settled g (λ s. refl) refl (record { seen = []; onward = λ s. refl; complete = refl })

  tags_read : (fs : List FieldDescriptor) → Ends (stop_point (tag_string bs)) (tags fs) (tag_string bs)
  unfolding tags
  tags_read [] = ends_there still
  tags_read (f ∷ fs) = ends_then (number_in (number f)) (λ p g. more_read g fs)

module _ {bs : List Body} (full message : Bytes) (m : Converts message) (x : OneofField) (n : Converts x.name) where
  oneof_tag_read : Reads (tag_start bs) (oneof_tag full message x) (between_two bs)
  unfolding oneof_tag choose same name_part name_start between
  oneof_tag_read =
      after
      (after (opens ▹▹ ends_as refl (quoted_path false [] (choice full x.name) (record { supers = 0; modules = message ∷ []; last = type_name x }) (λ _. oneof_way message m x n)))
      (λ p g. from_settled g (λ s. refl) refl (record { seen = []; onward = λ s. refl; complete = refl }))
      ▹▹ tags_read x.fields)
      (λ p g. tag_closed g)
    where
      opens : Reads (tag_start bs) (lit "oneof = \"") (point bs (tag_path 1 false []) tokens.string)
      opens = record { seen = []; onward = λ s. refl; complete = refl }

  oneof_line_read : (rs : List Setting) (d : ℕ) → Reads (between_two (struct_body ∷ bs)) (oneof_line d full message x) (between_two (struct_body ∷ bs))
  unfolding oneof_line
  oneof_line_read rs d =
      mark_last
      (after
      (ends_there
      (after
      (field_labelled d none x.name n ▸ option_opens rs ▹▹ typed_path (choice full x.name) (record { supers = 0; modules = message ∷ []; last = type_name x }) (oneof_way message m x n))
      (λ p g. wrap_closed g)))
      (λ p g. field_closed g))

module _ (rs : List Setting) {bs : List Body} (d : ℕ) (full message : Bytes) (m : Converts message) where
  oneof_field_read : (x : OneofField) → Converts x.name → Reads (between_two (struct_body ∷ bs)) (append_oneof_field rs d full message x) (between_two (struct_body ∷ bs))
  unfolding append_oneof_field
  oneof_field_read x n =
      prost_opened d ▸ oneof_tag_read full message m x n ▸ field_attributes_read rs d full x.name ▸ oneof_line_read full message m x n rs d

  pub oneof_fields_read : (xs : List OneofField) → Every ReadableOneof xs → Reads (between_two (struct_body ∷ bs)) (append_oneof_fields rs d full message xs) (between_two (struct_body ∷ bs))
  unfolding append_oneof_fields
  oneof_fields_read [] h = still
  oneof_fields_read (x ∷ xs) h = oneof_field_read x h.0.named ▸ oneof_fields_read xs h.1
