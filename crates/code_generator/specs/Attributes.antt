-- code_generator.rs: the lines that stand before a declaration, a field or a variant. Assumes nothing.
use Rattle.std.specs.Prelude.{ℕ, Bool, false, List, [], ◌∷◌}
use Prim.Native.String.{String}
use Rattle.std.proofs.Math.Option.{Option, some, none}
use Rattle.descriptor.specs.Descriptor.{Bytes, FieldDescriptor, FieldOptions}
use Rattle.options.specs.Settings.{Setting, first_of_kind, prost_path}
use Rattle.context.specs.Context.{type_attributes, message_attributes, enum_attributes, field_attributes, should_skip_debug}
use Rattle.code_generator.specs.Piece.{Text, nothing, piece, ◌⟫◌, when, ◌◃◌, raw, opaque, close, block_open, lit, push_indent}
use Rattle.code_generator.specs.Resolve.{prost}

-- a line, or its start, at the depth d
abbrev pub line : ℕ → String → Text
line d s = push_indent d ⟫ lit s

-- a line that opens a block which is neither a module nor a declaration
abbrev pub block : ℕ → String → Text
block d s = line d s ◃ block_open

-- the line that closes a block
abbrev pub end : ℕ → Text
end d = line d "}\n" ◃ close

-- ---- attributes: each is one piece on a line of its own
unfoldable pub attributes : ℕ → List Bytes → Text
attributes d [] = nothing
attributes d (v ∷ vs) = (push_indent d ⟫ piece (opaque v) ⟫ lit "\n") ⟫ attributes d vs

abbrev pub options_deprecated : Option FieldOptions → Bool
options_deprecated none = false
options_deprecated (some o) = o.deprecated

abbrev pub deprecated : FieldDescriptor → Bool
deprecated f = options_deprecated f.options

unfoldable pub append_deprecated : ℕ → FieldDescriptor → Text
append_deprecated d f = when (deprecated f) (line d "#[deprecated]\n")

module _ (rs : List Setting) where
  unfoldable pub append_type_attributes : ℕ → Bytes → Text
  append_type_attributes d full = attributes d (type_attributes rs full)

  unfoldable pub append_message_attributes : ℕ → Bytes → Text
  append_message_attributes d full = attributes d (message_attributes rs full)

  unfoldable pub append_enum_attributes : ℕ → Bytes → Text
  append_enum_attributes d full = attributes d (enum_attributes rs full)

  unfoldable pub append_field_attributes : ℕ → Bytes → Bytes → Text
  append_field_attributes d full name = attributes d (field_attributes rs full name)

  -- the derives of a struct or a oneof's enum
  unfoldable pub derive : ℕ → Bool → Bool → Bytes → Text
  derive d copy eq what =
      line d "#[derive(Clone, "
      ⟫ when copy (lit "Copy, ")
      ⟫ lit "PartialEq, "
      ⟫ when eq (lit "Eq, Hash, ")
      ⟫ prost rs
      ⟫ piece (raw what)

  -- prost_path_attribute: only with kind 10, and with no indent
  unfoldable pub append_prost_path_attribute : Text
  append_prost_path_attribute =
      when (first_of_kind 10 0 rs).found (lit "#[prost(prost_path = \"" ⟫ piece (opaque (prost_path rs)) ⟫ lit "\")]\n")

  unfoldable pub append_skip_debug : ℕ → Bytes → Text
  append_skip_debug d full = when (should_skip_debug rs full) (line d "#[prost(skip_debug)]\n")
