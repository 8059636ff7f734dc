-- code_generator.rs: OneofField, append_oneof_field and append_oneof. Assumes nothing.
use Rattle.std.specs.Prelude.{ℕ, suc, Bool, true, false, ◌||◌, List, [], ◌∷◌, ◌==◌}
use Rattle.std.proofs.Math.Option.{Option, some, none}
use Rattle.base.specs.Bytes.{b, same}
use Rattle.base.specs.Choose.{choose}
use Rattle.base.specs.Lists.{all, is_empty}
use Rattle.writer.specs.Decimal.{decimal}
use Rattle.ident.specs.Ident.{to_upper_camel}
use Rattle.descriptor.specs.Descriptor.{Bytes, Forest, done, node, FieldDescriptor, EnumDescriptor, MessageDescriptor, FileDescriptor}
use Rattle.options.specs.Settings.{Setting}
use Rattle.name_rules.specs.Accessors.{text, number}
use Rattle.name_rules.specs.FullNames.{◌·◌}
use Rattle.context.specs.Context.{bytes_type, should_box_oneof_field, can_field_derive_copy, can_field_derive_eq}
use Rattle.code_generator.specs.Piece.{Text, nothing, piece, ◌⟫◌, ◌▹◌, ◌◃◌, raw, decl_open, path, Spelling, snake, camel, oneof_type, choice, opt, comma, tag_open, tag_close, wrap_open, wrap_close, lit, push_indent}
use Rattle.code_generator.specs.Piece.{label as label_piece}
use Rattle.code_generator.specs.Resolve.{resolve_type, field_type_tag}
use Rattle.code_generator.specs.Attributes.{line, end, derive, append_deprecated, append_type_attributes, append_enum_attributes, append_field_attributes, append_prost_path_attribute, append_skip_debug}
use Rattle.code_generator.specs.Fields.{box_open, box_close}

-- ---- the fields of a message: plain ones, and those of a oneof
-- the oneof of a field; proto3_optional takes it out of its oneof
abbrev pub oneof_of : FieldDescriptor → Option ℕ
oneof_of f = choose f.proto3_optional none f.oneof_index

abbrev pub is_plain : Option ℕ → Bool
is_plain none = true
is_plain (some i) = false

abbrev pub is_at : ℕ → Option ℕ → Bool
is_at i none = false
is_at i (some j) = i == j

-- fields: those in no oneof
unfoldable pub plain_fields : List FieldDescriptor → List FieldDescriptor
plain_fields [] = []
plain_fields (f ∷ fs) = choose (is_plain (oneof_of f)) (f ∷ plain_fields fs) (plain_fields fs)

-- oneof_map: the fields of the oneof i
unfoldable pub fields_at : ℕ → List FieldDescriptor → List FieldDescriptor
fields_at i [] = []
fields_at i (f ∷ fs) = choose (is_at i (oneof_of f)) (f ∷ fields_at i fs) (fields_at i fs)

-- ---- OneofField: its name, the fields that it is left with, and whether a nested type has its type's name
pub record OneofField : Type 0 where
  pub name : Bytes
  pub fields : List FieldDescriptor
  pub has_type_name_conflict : Bool

-- does a nested message, map entry or enum have this camel name?
unfoldable pub nested_meets : Bytes → Forest MessageDescriptor → Bool
nested_meets x done = false
nested_meets x (node m nested following) = same (to_upper_camel (text m.name)) x || nested_meets x following

unfoldable pub enum_meets : Bytes → List EnumDescriptor → Bool
enum_meets x [] = false
enum_meets x (e ∷ es) = same (to_upper_camel (text e.name)) x || enum_meets x es

abbrev pub meets : MessageDescriptor → Forest MessageDescriptor → Bytes → Bool
meets m nested name = nested_meets (to_upper_camel name) nested || enum_meets (to_upper_camel name) m.enums

-- the oneofs from the index i on: one left without fields is left out
unfoldable pub oneofs_from : MessageDescriptor → Forest MessageDescriptor → ℕ → List (Option Bytes) → List OneofField
oneofs_from m nested i [] = []
oneofs_from m nested i (n ∷ ns) =
    choose (is_empty (fields_at i m.fields)) (oneofs_from m nested (suc i) ns)
    (record { name = text n; fields = fields_at i m.fields; has_type_name_conflict = meets m nested (text n) }
    ∷ oneofs_from m nested (suc i) ns)

-- oneof_fields of a message
abbrev pub oneof_fields : MessageDescriptor → Forest MessageDescriptor → List OneofField
oneof_fields m nested = oneofs_from m nested 0 m.oneofs

-- OneofField::type_name
abbrev pub type_name : OneofField → Spelling
type_name x = oneof_type x.has_type_name_conflict x.name

-- the numbers of fields, with `, ` between two
unfoldable pub more_tags : List FieldDescriptor → Text
more_tags [] = nothing
more_tags (f ∷ fs) = (lit ", " ⟫ piece (raw (decimal (number f)))) ⟫ more_tags fs

unfoldable pub tags : List FieldDescriptor → Text
tags [] = nothing
tags (f ∷ fs) = piece (raw (decimal (number f))) ⟫ more_tags fs

-- ---- append_oneof_field. full and message: the message's full name and its own
-- the path of a oneof's type, from where its message's struct stands
abbrev pub oneof_path : Bytes → Bytes → OneofField → Text
oneof_path full message x = piece (path (choice full x.name) (record { supers = 0; modules = message ∷ []; last = type_name x }))

unfoldable pub oneof_tag : Bytes → Bytes → OneofField → Text
oneof_tag full message x =
    lit "oneof = \""
    ⟫ ((tag_open ▹ oneof_path full message x) ◃ tag_close)
    ⟫ lit "\", tags = \""
    ⟫ tags x.fields
    ⟫ lit "\")]\n"

unfoldable pub oneof_line : ℕ → Bytes → Bytes → OneofField → Text
oneof_line d full message x =
    (line d "pub "
    ⟫ piece (label_piece none (snake x.name))
    ⟫ lit ": "
    ⟫ (lit "::core::option::Option<" ◃ wrap_open opt)
    ⟫ oneof_path full message x
    ⟫ (lit ">" ◃ wrap_close)
    ⟫ lit ",\n")
    ◃ comma

unfoldable pub append_oneof_field : List Setting → ℕ → Bytes → Bytes → OneofField → Text
append_oneof_field rs d full message x =
    line d "#[prost("
    ⟫ oneof_tag full message x
    ⟫ append_field_attributes rs d full x.name
    ⟫ oneof_line d full message x

unfoldable pub append_oneof_fields : List Setting → ℕ → Bytes → Bytes → List OneofField → Text
append_oneof_fields rs d full message [] = nothing
append_oneof_fields rs d full message (x ∷ xs) = append_oneof_field rs d full message x ⟫ append_oneof_fields rs d full message xs

-- ---- append_oneof. The enum stands in its message's module, whose scope is the message's full name
unfoldable pub variant_tag : List Setting → Bytes → FieldDescriptor → Text
variant_tag rs scope f = field_type_tag rs scope f ⟫ lit ", tag = \"" ⟫ piece (raw (decimal (number f))) ⟫ lit "\")]\n"

-- boxed: should_box_oneof_field; as_bytes: bytes_type of the field is `Bytes`
unfoldable pub variant_line : List Setting → ℕ → Bytes → Bytes → FieldDescriptor → Bool → Bool → Text
variant_line rs d scope full f boxed as_bytes =
    (push_indent d
    ⟫ piece (label_piece (some (record { message = full; field = f })) (camel (text f.name)))
    ⟫ lit "("
    ⟫ box_open rs boxed
    ⟫ resolve_type rs scope as_bytes f
    ⟫ box_close boxed
    ⟫ lit "),\n")
    ◃ comma

module _ (rs : List Setting) (set : List FileDescriptor) where
  unfoldable pub append_variant : ℕ → Bytes → OneofField → FieldDescriptor → Text
  append_variant d full x f =
      append_deprecated d f
      ⟫ line d "#[prost("
      ⟫ variant_tag rs full f
      ⟫ append_field_attributes rs d (full · x.name) (text f.name)
      ⟫ variant_line rs d full full f (should_box_oneof_field rs set full x.name f) (bytes_type rs full (text f.name))

  unfoldable pub append_variants : ℕ → Bytes → OneofField → List FieldDescriptor → Text
  append_variants d full x [] = nothing
  append_variants d full x (f ∷ fs) = append_variant d full x f ⟫ append_variants d full x fs

  abbrev pub can_oneof_derive_copy : Bytes → OneofField → Bool
  can_oneof_derive_copy full x = all (can_field_derive_copy rs set full) x.fields

  abbrev pub can_oneof_derive_eq : Bytes → OneofField → Bool
  can_oneof_derive_eq full x = all (can_field_derive_eq set full) x.fields

  unfoldable pub append_oneof : ℕ → Bytes → OneofField → Text
  append_oneof d full x =
      append_type_attributes rs d (full · x.name)
      ⟫ append_enum_attributes rs d (full · x.name)
      ⟫ derive rs d (can_oneof_derive_copy full x) (can_oneof_derive_eq full x) (b "::Oneof)]\n")
      ⟫ append_prost_path_attribute rs
      ⟫ append_skip_debug rs d full
      ⟫ line d "pub enum "
      ⟫ piece (decl_open (choice full x.name) (type_name x))
      ⟫ lit " {\n"
      ⟫ append_variants (suc d) full x x.fields
      ⟫ end d

  unfoldable pub append_oneofs : ℕ → Bytes → List OneofField → Text
  append_oneofs d full [] = nothing
  append_oneofs d full (x ∷ xs) = append_oneof d full x ⟫ append_oneofs d full xs
