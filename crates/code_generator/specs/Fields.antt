-- code_generator.rs: append_field. Assumes nothing.
use Rattle.std.specs.Prelude.{ℕ, Bool, not, ◌&&◌, ◌||◌, List, ◌==◌}
use Rattle.std.proofs.Math.Option.{Option, some, none}
use Rattle.base.specs.Bytes.{b}
use Rattle.writer.specs.Decimal.{decimal}
use Rattle.literal.specs.Escape.{escape_text, escape_bytes}
use Rattle.c_escaping.specs.Unescape.{unescaped}
use Rattle.field_types.specs.Types.{sort_of, can_pack, bytes, enumerated}
use Rattle.descriptor.specs.Descriptor.{Bytes, FieldDescriptor, FieldOptions, FileDescriptor}
use Rattle.collections.specs.Collections.{bytes_type as bytes_type_of, bytes_annotation as bytes_word}
use Rattle.options.specs.Settings.{Setting, strips_prefix}
use Rattle.extern_paths.specs.Split.{split}
use Rattle.name_rules.specs.Accessors.{text, number, label, type, is_repeated, is_message}
use Rattle.context.specs.Context.{bytes_type, should_box_message_field}
use Rattle.code_generator.specs.Piece.{Text, nothing, piece, ◌⟫◌, when, either, ◌◃◌, raw, name, Spelling, snake, variant, opt, vec, box, comma, wrap_open, wrap_close, lit}
use Rattle.code_generator.specs.Piece.{label as label_piece}
use Rattle.code_generator.specs.Resolve.{last_name, prost, resolve_type, field_type_tag}
use Rattle.code_generator.specs.Attributes.{line, append_deprecated, append_field_attributes}

-- ---- tests
module _ (proto3 : Bool) where
  unfoldable pub optional : FieldDescriptor → Bool
  optional f = f.proto3_optional || (label f == 1 && (is_message f || not proto3))

  -- options that are there decide, and else the syntax
  abbrev pub options_packed : Option FieldOptions → Bool
  options_packed none = proto3
  options_packed (some o) = o.packed

  unfoldable pub unpacked : FieldDescriptor → Bool
  unpacked f = can_pack (type f) && not (options_packed f.options)

  -- ---- a field's tag
  unfoldable pub label_tag : FieldDescriptor → Text
  label_tag f =
      either (label f == 1) (when (optional f) (lit ", optional"))
      (either (label f == 2) (lit ", required") (lit ", repeated" ⟫ when (unpacked f) (lit ", packed = \"false\"")))

-- as_bytes: bytes_type of the field is `Bytes`
unfoldable pub bytes_annotation : FieldDescriptor → Bool → Text
bytes_annotation f as_bytes = when (sort_of (type f) == bytes) (lit " = \"" ⟫ piece (raw (bytes_word (bytes_type_of as_bytes))) ⟫ lit "\"")

module _ (rs : List Setting) where
  -- enum_value of a default; the enum's name, enum_type, is the last segment of the type name
  unfoldable pub enum_value : FieldDescriptor → Bytes → Spelling
  enum_value f v = variant (strips_prefix rs) (last_name (split (b ".") (text f.type_name))) v

  -- a bytes default that doesn't unescape is refused (9)
  unfoldable pub default_text : FieldDescriptor → Bytes → Text
  default_text f v =
      either (sort_of (type f) == bytes) (lit "b\\\"" ⟫ piece (raw (escape_bytes (unescaped v))) ⟫ lit "\\\"")
      (either (sort_of (type f) == enumerated) (piece (name (enum_value f v))) (piece (raw (escape_text v))))

  abbrev pub default_given : FieldDescriptor → Option Bytes → Text
  default_given f none = nothing
  default_given f (some v) = lit "\", default = \"" ⟫ default_text f v

  unfoldable pub default_tag : FieldDescriptor → Text
  default_tag f = default_given f f.default_value

-- the tag of a field, from behind `#[prost(` on. scope: where the struct stands
unfoldable pub field_tag : List Setting → Bool → Bytes → FieldDescriptor → Bool → Bool → Text
field_tag rs proto3 scope f boxed as_bytes =
    field_type_tag rs scope f
    ⟫ bytes_annotation f as_bytes
    ⟫ label_tag proto3 f
    ⟫ when boxed (lit ", boxed")
    ⟫ lit ", tag = \""
    ⟫ piece (raw (decimal (number f)))
    ⟫ default_tag rs f
    ⟫ lit "\")]\n"

-- ---- a field's line: what stands around its type
unfoldable pub shape_open : List Setting → Bool → FieldDescriptor → Text
shape_open rs proto3 f =
    either (is_repeated f) (prost rs ⟫ (lit "::alloc::vec::Vec<" ◃ wrap_open vec))
    (when (optional proto3 f) (lit "::core::option::Option<" ◃ wrap_open opt))

unfoldable pub shape_close : Bool → FieldDescriptor → Text
shape_close proto3 f = when (is_repeated f || optional proto3 f) (lit ">" ◃ wrap_close)

unfoldable pub box_open : List Setting → Bool → Text
box_open rs boxed = when boxed (prost rs ⟫ (lit "::alloc::boxed::Box<" ◃ wrap_open box))

unfoldable pub box_close : Bool → Text
box_close boxed = when boxed (lit ">" ◃ wrap_close)

-- rust_name of a field; full: the message's full name
abbrev pub field_name : Bytes → FieldDescriptor → Text
field_name full f = piece (label_piece (some (record { message = full; field = f })) (snake (text f.name)))

unfoldable pub field_line : List Setting → Bool → ℕ → Bytes → Bytes → FieldDescriptor → Bool → Bool → Text
field_line rs proto3 d scope full f boxed as_bytes =
    (line d "pub "
    ⟫ field_name full f
    ⟫ lit ": "
    ⟫ shape_open rs proto3 f
    ⟫ box_open rs boxed
    ⟫ resolve_type rs scope as_bytes f
    ⟫ box_close boxed
    ⟫ shape_close proto3 f
    ⟫ lit ",\n")
    ◃ comma

unfoldable pub append_field : List Setting → List FileDescriptor → Bool → ℕ → Bytes → Bytes → FieldDescriptor → Text
append_field rs set proto3 d scope full f =
    append_deprecated d f
    ⟫ line d "#[prost("
    ⟫ field_tag rs proto3 scope f (should_box_message_field rs set full f) (bytes_type rs full (text f.name))
    ⟫ append_field_attributes rs d full (text f.name)
    ⟫ field_line rs proto3 d scope full f (should_box_message_field rs set full f) (bytes_type rs full (text f.name))
