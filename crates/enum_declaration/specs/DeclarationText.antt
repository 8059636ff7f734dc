-- An enum's declaration as it is written: as `enum_declaration` says, where the paths of its values' attributes have room in their buffers
-- (limits 8 and 9 leave no longer ones). Assumes nothing.
use Rattle.std.specs.Prelude.{ℕ, suc, List}
use Rattle.descriptor.specs.Descriptor.{Bytes, ValueDescriptor}
use Rattle.options.specs.Settings.{Setting}
use Rattle.code_generator.specs.Piece.{Text, piece, ◌⟫◌, lit, decl_open, type, camel}
use Rattle.code_generator.specs.Attributes.{line, end, append_type_attributes, append_enum_attributes, append_prost_path_attribute}
use Rattle.code_generator.specs.Enums.{enum_derive}
use Rattle.enum_arms.specs.declared.Arm.TheVariants.{Variant}
use Rattle.enum_arms.specs.ValueText.{value_texts}

module _ (rs : List Setting) where
  -- what stands behind the derives
  unfoldable pub behind_derive : ℕ → Bytes → Bytes → List ValueDescriptor → Text
  behind_derive d full enum vs =
      append_prost_path_attribute rs
      ⟫ line d "#[repr(i32)]\n"
      ⟫ line d "pub enum "
      ⟫ piece (decl_open (type full) (camel enum))
      ⟫ lit " {\n"
      ⟫ value_texts rs Variant (suc d) full enum vs
      ⟫ end d

  unfoldable pub declaration_text : ℕ → Bytes → Bytes → List ValueDescriptor → Text
  declaration_text d full enum vs =
      append_type_attributes rs d full
      ⟫ append_enum_attributes rs d full
      ⟫ enum_derive rs d full
      ⟫ append_prost_path_attribute rs
      ⟫ line d "#[repr(i32)]\n"
      ⟫ line d "pub enum "
      ⟫ piece (decl_open (type full) (camel enum))
      ⟫ lit " {\n"
      ⟫ value_texts rs Variant (suc d) full enum vs
      ⟫ end d
