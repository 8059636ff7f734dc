-- code_generator.rs: build_enum_value_mappings and append_enum. Assumes nothing.
use Rattle.std.specs.Prelude.{ℕ, suc, Bool, false, not, ◌||◌, List, [], ◌∷◌, ◌==◌}
use Rattle.base.specs.Choose.{choose}
use Rattle.writer.specs.Decimal.{signed}
use Rattle.descriptor.specs.Descriptor.{Bytes, ValueDescriptor, EnumDescriptor}
use Rattle.options.specs.Settings.{Setting, strips_prefix}
use Rattle.extern_paths.specs.ExternPaths.{taken}
use Rattle.name_rules.specs.Accessors.{or_else, text}
use Rattle.name_rules.specs.FullNames.{◌·◌}
use Rattle.context.specs.Context.{should_skip_debug}
use Rattle.code_generator.specs.Piece.{Text, nothing, piece, ◌⟫◌, when, ◌◃◌, raw, name, decl_open, Spelling, camel, variant, type, block_open, lit, push_indent}
use Rattle.code_generator.specs.Resolve.{prost}
use Rattle.code_generator.specs.Attributes.{line, block, end, append_type_attributes, append_enum_attributes, append_field_attributes, append_prost_path_attribute}

-- ---- build_enum_value_mappings
-- the low 32 bits of a value's number
abbrev pub value_number : ValueDescriptor → ℕ
value_number v = or_else 0 v.number

unfoldable pub is_used : ℕ → List ℕ → Bool
is_used n [] = false
is_used n (m ∷ ms) = n == m || is_used n ms

-- a later value with a used number is left out. `used` are the numbers met so far
unfoldable pub mappings_from : List ℕ → List ValueDescriptor → List ValueDescriptor
mappings_from used [] = []
mappings_from used (v ∷ vs) =
    choose (is_used (value_number v) used) (mappings_from used vs) (v ∷ mappings_from (value_number v ∷ used) vs)

abbrev pub build_enum_value_mappings : List ValueDescriptor → List ValueDescriptor
build_enum_value_mappings vs = mappings_from [] vs

module _ (rs : List Setting) where
  -- of a value, in the enum of this name
  abbrev pub generated_variant_name : Bytes → ValueDescriptor → Spelling
  generated_variant_name enum v = variant (strips_prefix rs) enum (text v.name)

  -- ---- append_enum. full and enum: the enum's full name and its own; vs: the mappings
  unfoldable pub variant_lines : ℕ → Bytes → ValueDescriptor → Text
  variant_lines d enum v =
      when v.deprecated (line d "#[deprecated]\n")
      ⟫ push_indent d
      ⟫ piece (name (generated_variant_name enum v))
      ⟫ lit " = "
      ⟫ piece (raw (signed (value_number v)))
      ⟫ lit ",\n"

  unfoldable pub enum_variant : ℕ → Bytes → Bytes → ValueDescriptor → Text
  enum_variant d full enum v = append_field_attributes rs d full (text v.name) ⟫ variant_lines d enum v

  unfoldable pub enum_variants : ℕ → Bytes → Bytes → List ValueDescriptor → Text
  enum_variants d full enum [] = nothing
  enum_variants d full enum (v ∷ vs) = enum_variant d full enum v ⟫ enum_variants d full enum vs

  unfoldable pub as_str_arm : ℕ → Bytes → ValueDescriptor → Text
  as_str_arm d enum v =
      when v.deprecated (line d "#[allow(deprecated)]\n")
      ⟫ line d "Self::"
      ⟫ piece (name (generated_variant_name enum v))
      ⟫ lit " => \""
      ⟫ piece (raw (text v.name))
      ⟫ lit "\",\n"

  unfoldable pub as_str_arms : ℕ → Bytes → List ValueDescriptor → Text
  as_str_arms d enum [] = nothing
  as_str_arms d enum (v ∷ vs) = as_str_arm d enum v ⟫ as_str_arms d enum vs

  unfoldable pub from_str_arm : ℕ → Bytes → ValueDescriptor → Text
  from_str_arm d enum v =
      line d "\""
      ⟫ piece (raw (text v.name))
      ⟫ lit "\" => Some("
      ⟫ when v.deprecated (lit "#[allow(deprecated)] ")
      ⟫ lit "Self::"
      ⟫ piece (name (generated_variant_name enum v))
      ⟫ lit "),\n"

  unfoldable pub from_str_arms : ℕ → Bytes → List ValueDescriptor → Text
  from_str_arms d enum [] = nothing
  from_str_arms d enum (v ∷ vs) = from_str_arm d enum v ⟫ from_str_arms d enum vs

  unfoldable pub enum_derive : ℕ → Bytes → Text
  enum_derive d full =
      line d "#[derive(Clone, Copy, "
      ⟫ when (not (should_skip_debug rs full)) (lit "Debug, ")
      ⟫ lit "PartialEq, Eq, Hash, PartialOrd, Ord, "
      ⟫ prost rs
      ⟫ lit "::Enumeration)]\n"

  unfoldable pub as_str_name : ℕ → Bytes → List ValueDescriptor → Text
  as_str_name d enum vs =
      line d "/// String value of the enum field names used in the ProtoBuf definition.\n"
      ⟫ line d "///\n"
      ⟫ line d "/// The values are not transformed in any way and thus are considered stable\n"
      ⟫ line d "/// (if the ProtoBuf definition does not change) and safe for programmatic use.\n"
      ⟫ block d "pub fn as_str_name(&self) -> &'static str {\n"
      ⟫ block (suc d) "match self {\n"
      ⟫ as_str_arms (suc (suc d)) enum vs
      ⟫ end (suc d)
      ⟫ end d

  unfoldable pub from_str_name : ℕ → Bytes → List ValueDescriptor → Text
  from_str_name d enum vs =
      line d "/// Creates an enum from field names used in the ProtoBuf definition.\n"
      ⟫ block d "pub fn from_str_name(value: &str) -> ::core::option::Option<Self> {\n"
      ⟫ block (suc d) "match value {\n"
      ⟫ from_str_arms (suc (suc d)) enum vs
      ⟫ line (suc (suc d)) "_ => None,\n"
      ⟫ end (suc d)
      ⟫ end d

  unfoldable pub enum_impl : ℕ → Bytes → List ValueDescriptor → Text
  enum_impl d enum vs =
      ((line d "impl " ⟫ piece (name (camel enum)) ⟫ lit " {\n") ◃ block_open)
      ⟫ as_str_name (suc d) enum vs
      ⟫ from_str_name (suc d) enum vs
      ⟫ end d

  unfoldable pub enum_declaration : ℕ → Bytes → Bytes → List ValueDescriptor → Text
  enum_declaration d full enum vs =
      append_type_attributes rs d full
      ⟫ append_enum_attributes rs d full
      ⟫ enum_derive d full
      ⟫ append_prost_path_attribute rs
      ⟫ line d "#[repr(i32)]\n"
      ⟫ line d "pub enum "
      ⟫ piece (decl_open (type full) (camel enum))
      ⟫ lit " {\n"
      ⟫ enum_variants (suc d) full enum vs
      ⟫ end d

  -- left out where an extern path takes it
  unfoldable pub append_enum : ℕ → Bytes → EnumDescriptor → Text
  append_enum d scope e =
      when (not (taken rs (scope · text e.name)))
      (enum_declaration d (scope · text e.name) (text e.name) (build_enum_value_mappings e.values) ⟫ enum_impl d (text e.name) (build_enum_value_mappings e.values))

  unfoldable pub append_enums : ℕ → Bytes → List EnumDescriptor → Text
  append_enums d scope [] = nothing
  append_enums d scope (e ∷ es) = append_enum d scope e ⟫ append_enums d scope es
