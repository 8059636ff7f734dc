-- What the reader sees in an enum: its declaration, and the blocks of its `impl`. Assumes nothing.
use Rattle.std.specs.Prelude.{◌≡◌, ℕ, suc, Bool, true, not, List, [], ◌∷◌}
use Prim.Native.String.{String}
use Rattle.std.proofs.Math.Path.{refl}
use Rattle.std.proofs.Common.{sym, subst}
use Rattle.std.proofs.Math.Option.{Option, none}
use Rattle.base.specs.Bytes.{same}
use Rattle.base.specs.Choose.{choose, choose_case}
use Rattle.base.specs.Lists.{Every}
use Rattle.heck.specs.Case.{between}
use Rattle.ident.specs.Name.{name_start, name_part}
use Rattle.ident.specs.Ident.{to_upper_camel}
use Rattle.descriptor.specs.Descriptor.{Bytes, ValueDescriptor, EnumDescriptor}
use Rattle.options.specs.Settings.{Setting, first_of_kind, prost_path, strips_prefix}
use Rattle.extern_paths.specs.ExternPaths.{taken}
use Rattle.name_rules.specs.Accessors.{text}
use Rattle.name_rules.specs.FullNames.{◌·◌}
use Rattle.name_rules.specs.WellFormed.{Name, Named, GoodValue, GoodEnum}
use Rattle.context.specs.Context.{type_attributes, enum_attributes, field_attributes, should_skip_debug}
use Rattle.code_generator.specs.Piece.{Text, piece, ◌⟫◌, when, ◌◃◌, raw, opaque, name, decl_open, Ref, type, Spelling, camel, spelt, block_open, close, lit}
use Rattle.code_generator.specs.Attributes.{line, block, end, append_type_attributes, append_enum_attributes, append_field_attributes, append_prost_path_attribute}
use Rattle.code_generator.specs.Enums.{value_number, is_used, mappings_from, build_enum_value_mappings, generated_variant_name, variant_lines, enum_variant, enum_variants, as_str_arm, as_str_arms, from_str_arm, from_str_arms, enum_derive, as_str_name, from_str_name, enum_impl, enum_declaration, append_enum, append_enums}
use Rattle.sights.specs.Events.{open_declaration, open_block, close_block}
use Rattle.text_reader.specs.Tokens.{code, code_word, string}
use Rattle.text_reader.specs.Reader.{Body, module_body, enum_body, code_body, start, naming, header, discriminant, attribute, other_key, skipped}
use Rattle.reading.specs.Reading.{Point, point, Reads, ◌▸◌, still, reads_when, mark_last, regrouped, Ends, ◌▹▹◌, from_settled, after}
use Rattle.reading.specs.Words.{is_word, name_word, in_code, word_read, indent_read}
use Rattle.reading.specs.Strings.{string_stop, string_name, number_read}
use Rattle.field_reading.specs.Readable.{Converts, camel_word, variant_word}
use Rattle.field_reading.specs.TypeReading.{prost_then}
use Rattle.field_reading.proofs.FieldReading.{between_two, attributes_read, deprecated_read}

-- ---- the name that a descriptor has
pub named_text : (o : Option Bytes) → Named o → Name (text o)
named_text o h = subst (λ (z : Option Bytes). Name (text z)) (sym h.there) h.good

-- ---- lines that are the same in every text
module _ {bs : List Body} (d : ℕ) (x : String) where
  fixed : Reads (between_two bs) (lit x) (between_two bs) → Reads (between_two bs) (line d x) (between_two bs)
  fixed r = indent_read d ▸ r

  opened_block : Reads (between_two bs) (lit x ◃ block_open) (between_two (code_body ∷ bs)) → Reads (between_two bs) (block d x) (between_two (code_body ∷ bs))
  opened_block r = mark_last (indent_read d ▸ r)

pub end_read : {bs : List Body} {body : Body} (d : ℕ) → Reads (between_two (body ∷ bs)) (end d) (between_two bs)
unfolding choose name_part name_start between
end_read {bs} {body} d = mark_last (indent_read d ▸ here)
  where
    here : Reads (between_two (body ∷ bs)) (lit "}\n" ◃ close) (between_two bs)
    here = record { seen = close_block ∷ []; onward = λ s. refl; complete = refl }

-- ---- where items stand: in the text's own module, or in one that it opened
pub data Items : List Body → Type 0 where
  outermost : Items []
  inner : {bs : List Body} → Items (module_body ∷ bs)

enum_keyword : {bs : List Body} → Items bs → Reads (between_two bs) (lit "pub enum ") (point bs (naming enum_body) code)
unfolding choose same name_part name_start between
enum_keyword outermost = record { seen = []; onward = λ s. refl; complete = refl }
enum_keyword inner = record { seen = []; onward = λ s. refl; complete = refl }

impl_keyword : {bs : List Body} → Items bs → Reads (between_two bs) (lit "impl ") (point bs header code)
unfolding choose same name_part name_start between
impl_keyword outermost = record { seen = []; onward = λ s. refl; complete = refl }
impl_keyword inner = record { seen = []; onward = λ s. refl; complete = refl }

module _ {bs : List Body} where
  -- behind a text that leads there
  pub enum_opened : {a : Point} {x : Text} → Reads a x (between_two bs) → Items bs → (d : ℕ) (r : Ref) (n : Spelling) → is_word (spelt n) ≡ true
      → Reads a (x ⟫ line d "pub enum " ⟫ piece (decl_open r n) ⟫ lit " {\n") (between_two (enum_body ∷ bs))
  unfolding choose same name_part name_start between
  enum_opened p i d r n h = p ▸ (indent_read d ▸ enum_keyword i) ▸ word_read in_code (decl_open r n) (spelt n) refl h ▸ brace
    where
      brace : Reads (record { bodies = bs; at = naming enum_body; lexing = code_word (spelt n); owed = open_declaration none (spelt n) ∷ [] }) (lit " {\n") (between_two (enum_body ∷ bs))
      brace = record { seen = open_declaration none (spelt n) ∷ []; onward = λ s. refl; complete = refl }

-- ---- attributes
module _ (rs : List Setting) {bs : List Body} where
  pub path_attribute_read : Reads (between_two bs) (append_prost_path_attribute rs) (between_two bs)
  unfolding append_prost_path_attribute choose same name_part name_start between
  path_attribute_read = reads_when (first_of_kind 10 0 rs).found (opens ▸ value ▸ closes)
    where
      in_path : Point
      in_path = point bs (skipped (attribute 1 other_key)) string

      opens : Reads (between_two bs) (lit "#[prost(prost_path = \"") in_path
      opens = record { seen = []; onward = λ s. refl; complete = refl }

      value : Reads in_path (piece (opaque (prost_path rs))) in_path
      value = record { seen = []; onward = λ s. refl; complete = refl }

      closes : Reads in_path (lit "\")]\n") (between_two bs)
      closes = record { seen = []; onward = λ s. refl; complete = refl }

  enum_derive_read : (d : ℕ) (full : Bytes) → Reads (between_two bs) (enum_derive rs d full) (between_two bs)
  unfolding enum_derive choose same name_part name_start between
  enum_derive_read d full =
      regrouped
      (indent_read d ▸ opens ▸ reads_when (not (should_skip_debug rs full)) debug ▸ more
      ▸ prost_then rs (λ v. record { seen = []; onward = λ s. refl; complete = refl }) (record { seen = []; onward = λ s. refl; complete = refl }))
    where
      in_derive : Point
      in_derive = point bs (attribute 1 other_key) code

      opens : Reads (between_two bs) (lit "#[derive(Clone, Copy, ") in_derive
      opens = record { seen = []; onward = λ s. refl; complete = refl }

      debug : Reads in_derive (lit "Debug, ") in_derive
      debug = record { seen = []; onward = λ s. refl; complete = refl }

      more : Reads in_derive (lit "PartialEq, Eq, Hash, PartialOrd, Ord, ") in_derive
      more = record { seen = []; onward = λ s. refl; complete = refl }

-- ---- the values that are left
mappings_good : (used : List ℕ) (vs : List ValueDescriptor) → Every GoodValue vs → Every GoodValue (mappings_from used vs)
unfolding mappings_from
mappings_good used [] h = tt
mappings_good used (v ∷ vs) h =
    choose_case (Every GoodValue) (is_used (value_number v) used) (λ _. mappings_good used vs h.1) (λ _. (h.0, mappings_good (value_number v ∷ used) vs h.1))

value_word : (rs : List Setting) (enum : Bytes) (v : ValueDescriptor) → GoodValue v → is_word (spelt (generated_variant_name rs enum v)) ≡ true
value_word rs enum v h = variant_word (strips_prefix rs) enum (text v.name) (named_text v.name h.named).letter_or_digit

-- in a string of the code
abbrev code_string : List Body → Point
code_string bs = point (code_body ∷ bs) (skipped start) string

module _ (rs : List Setting) {bs : List Body} (enum : Bytes) where
  -- ---- variants
  variant_lines_read : (d : ℕ) (v : ValueDescriptor) → GoodValue v → Reads (between_two (enum_body ∷ bs)) (variant_lines rs d enum v) (between_two (enum_body ∷ bs))
  unfolding variant_lines choose same name_part name_start between
  variant_lines_read d v h =
      after
      (deprecated_read d v.deprecated ▸ indent_read d ▸ word_read in_code (name n) (spelt n) refl (value_word rs enum v h) ▸ equals ▹▹ number_read (value_number v))
      (λ p g. from_settled g (λ s. refl) refl (record { seen = []; onward = λ s. refl; complete = refl }))
    where
      n : Spelling
      n = generated_variant_name rs enum v

      equals : Reads (point (enum_body ∷ bs) start (code_word (spelt n))) (lit " = ") (point (enum_body ∷ bs) discriminant code)
      equals = record { seen = []; onward = λ s. refl; complete = refl }

  enum_variants_read : (d : ℕ) (full : Bytes) (vs : List ValueDescriptor) → Every GoodValue vs → Reads (between_two (enum_body ∷ bs)) (enum_variants rs d full enum vs) (between_two (enum_body ∷ bs))
  unfolding enum_variants enum_variant append_field_attributes
  enum_variants_read d full [] h = still
  enum_variants_read d full (v ∷ vs) h =
      (attributes_read d (field_attributes rs full (text v.name)) ▸ variant_lines_read d v h.0) ▸ enum_variants_read d full vs h.1

  -- ---- the arms of the two functions
  allow_read : (d : ℕ) (t : Bool) → Reads (between_two (code_body ∷ bs)) (when t (line d "#[allow(deprecated)]\n")) (between_two (code_body ∷ bs))
  unfolding choose same name_part name_start between
  allow_read d t = reads_when t (fixed d "#[allow(deprecated)]\n" (record { seen = []; onward = λ s. refl; complete = refl }))

  proto_name : (v : ValueDescriptor) → GoodValue v → Ends (code_string bs) (piece (raw (text v.name))) (string_stop (code_body ∷ bs) start)
  proto_name v h = string_name (raw (text v.name)) (text v.name) refl refl (name_word (text v.name) (named_text v.name h.named).identifier)

  as_str_arm_read : (d : ℕ) (v : ValueDescriptor) → GoodValue v → Reads (between_two (code_body ∷ bs)) (as_str_arm rs d enum v) (between_two (code_body ∷ bs))
  unfolding as_str_arm choose same name_part name_start between
  as_str_arm_read d v h =
      after
      (allow_read d v.deprecated
      ▸ fixed d "Self::" (record { seen = []; onward = λ s. refl; complete = refl })
      ▸ word_read in_code (name n) (spelt n) refl (value_word rs enum v h)
      ▸ arrow
      ▹▹ proto_name v h)
      (λ p g. from_settled g (λ s. refl) refl (record { seen = []; onward = λ s. refl; complete = refl }))
    where
      n : Spelling
      n = generated_variant_name rs enum v

      arrow : Reads (point (code_body ∷ bs) start (code_word (spelt n))) (lit " => \"") (code_string bs)
      arrow = record { seen = []; onward = λ s. refl; complete = refl }

  as_str_arms_read : (d : ℕ) (vs : List ValueDescriptor) → Every GoodValue vs → Reads (between_two (code_body ∷ bs)) (as_str_arms rs d enum vs) (between_two (code_body ∷ bs))
  unfolding as_str_arms
  as_str_arms_read d [] h = still
  as_str_arms_read d (v ∷ vs) h = as_str_arm_read d v h.0 ▸ as_str_arms_read d vs h.1

  from_str_arm_read : (d : ℕ) (v : ValueDescriptor) → GoodValue v → Reads (between_two (code_body ∷ bs)) (from_str_arm rs d enum v) (between_two (code_body ∷ bs))
  unfolding from_str_arm choose same name_part name_start between
  from_str_arm_read d v h =
      after (indent_read d ▸ quotes ▹▹ proto_name v h)
      (λ p g. from_settled g (λ s. refl) refl (record { seen = []; onward = λ s. refl; complete = refl }))
      ▸ reads_when v.deprecated allows
      ▸ self
      ▸ word_read in_code (name n) (spelt n) refl (value_word rs enum v h)
      ▸ closes
    where
      n : Spelling
      n = generated_variant_name rs enum v

      quotes : Reads (between_two (code_body ∷ bs)) (lit "\"") (code_string bs)
      quotes = record { seen = []; onward = λ s. refl; complete = refl }

      allows : Reads (between_two (code_body ∷ bs)) (lit "#[allow(deprecated)] ") (between_two (code_body ∷ bs))
      allows = record { seen = []; onward = λ s. refl; complete = refl }

      self : Reads (between_two (code_body ∷ bs)) (lit "Self::") (between_two (code_body ∷ bs))
      self = record { seen = []; onward = λ s. refl; complete = refl }

      closes : Reads (point (code_body ∷ bs) start (code_word (spelt n))) (lit "),\n") (between_two (code_body ∷ bs))
      closes = record { seen = []; onward = λ s. refl; complete = refl }

  from_str_arms_read : (d : ℕ) (vs : List ValueDescriptor) → Every GoodValue vs → Reads (between_two (code_body ∷ bs)) (from_str_arms rs d enum vs) (between_two (code_body ∷ bs))
  unfolding from_str_arms
  from_str_arms_read d [] h = still
  from_str_arms_read d (v ∷ vs) h = from_str_arm_read d v h.0 ▸ from_str_arms_read d vs h.1

-- ---- the two functions
module _ (rs : List Setting) {bs : List Body} (enum : Bytes) where
  as_str_name_read : (d : ℕ) (vs : List ValueDescriptor) → Every GoodValue vs → Reads (between_two (code_body ∷ bs)) (as_str_name rs d enum vs) (between_two (code_body ∷ bs))
  unfolding as_str_name choose same name_part name_start between
  as_str_name_read d vs h =
      fixed d "/// String value of the enum field names used in the ProtoBuf definition.\n" (record { seen = []; onward = λ s. refl; complete = refl })
      ▸ fixed d "///\n" (record { seen = []; onward = λ s. refl; complete = refl })
      ▸ fixed d "/// The values are not transformed in any way and thus are considered stable\n" (record { seen = []; onward = λ s. refl; complete = refl })
      ▸ fixed d "/// (if the ProtoBuf definition does not change) and safe for programmatic use.\n" (record { seen = []; onward = λ s. refl; complete = refl })
      ▸ opened_block d "pub fn as_str_name(&self) -> &'static str {\n" (record { seen = open_block ∷ []; onward = λ s. refl; complete = refl })
      ▸ opened_block (suc d) "match self {\n" (record { seen = open_block ∷ []; onward = λ s. refl; complete = refl })
      ▸ as_str_arms_read rs enum (suc (suc d)) vs h
      ▸ end_read (suc d)
      ▸ end_read d

  from_str_name_read : (d : ℕ) (vs : List ValueDescriptor) → Every GoodValue vs → Reads (between_two (code_body ∷ bs)) (from_str_name rs d enum vs) (between_two (code_body ∷ bs))
  unfolding from_str_name choose same name_part name_start between
  from_str_name_read d vs h =
      fixed d "/// Creates an enum from field names used in the ProtoBuf definition.\n" (record { seen = []; onward = λ s. refl; complete = refl })
      ▸ opened_block d "pub fn from_str_name(value: &str) -> ::core::option::Option<Self> {\n" (record { seen = open_block ∷ []; onward = λ s. refl; complete = refl })
      ▸ opened_block (suc d) "match value {\n" (record { seen = open_block ∷ []; onward = λ s. refl; complete = refl })
      ▸ from_str_arms_read rs enum (suc (suc d)) vs h
      ▸ fixed (suc (suc d)) "_ => None,\n" (record { seen = []; onward = λ s. refl; complete = refl })
      ▸ end_read (suc d)
      ▸ end_read d

module _ (rs : List Setting) {bs : List Body} (i : Items bs) (d : ℕ) where
  impl_read : (enum : Bytes) → Converts enum → (vs : List ValueDescriptor) → Every GoodValue vs → Reads (between_two bs) (enum_impl rs d enum vs) (between_two bs)
  unfolding enum_impl choose same name_part name_start between
  impl_read enum c vs h =
      mark_last (indent_read d ▸ impl_keyword i ▸ word_read in_code (name (camel enum)) (to_upper_camel enum) refl (camel_word enum c) ▸ brace)
      ▸ as_str_name_read rs enum (suc d) vs h
      ▸ from_str_name_read rs enum (suc d) vs h
      ▸ end_read d
    where
      brace : Reads (point bs header (code_word (to_upper_camel enum))) (lit " {\n" ◃ block_open) (between_two (code_body ∷ bs))
      brace = record { seen = open_block ∷ []; onward = λ s. refl; complete = refl }

  declaration_read : (full enum : Bytes) → Converts enum → (vs : List ValueDescriptor) → Every GoodValue vs → Reads (between_two bs) (enum_declaration rs d full enum vs) (between_two bs)
  unfolding enum_declaration append_type_attributes append_enum_attributes choose same name_part name_start between
  declaration_read full enum c vs h =
      enum_opened
      (attributes_read d (type_attributes rs full)
      ▸ attributes_read d (enum_attributes rs full)
      ▸ enum_derive_read rs d full
      ▸ path_attribute_read rs
      ▸ fixed d "#[repr(i32)]\n" (record { seen = []; onward = λ s. refl; complete = refl }))
      i d (type full) (camel enum) (camel_word enum c)
      ▸ enum_variants_read rs enum (suc d) full vs h
      ▸ end_read d

  enum_read : (scope : Bytes) (e : EnumDescriptor) → GoodEnum e → Reads (between_two bs) (append_enum rs d scope e) (between_two bs)
  unfolding append_enum
  enum_read scope e h =
      reads_when (not (taken rs (scope · text e.name)))
      (declaration_read (scope · text e.name) (text e.name) named (build_enum_value_mappings e.values) values
      ▸ impl_read (text e.name) named (build_enum_value_mappings e.values) values)
    where
      named : Converts (text e.name)
      named = (named_text e.name h.named).letter_or_digit

      values : Every GoodValue (build_enum_value_mappings e.values)
      values = mappings_good [] e.values h.values

  pub enums_read : (scope : Bytes) (es : List EnumDescriptor) → Every GoodEnum es → Reads (between_two bs) (append_enums rs d scope es) (between_two bs)
  unfolding append_enums
  enums_read scope [] h = still
  enums_read scope (e ∷ es) h = enum_read scope e h.0 ▸ enums_read scope es h.1
