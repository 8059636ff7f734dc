-- What is written for the values of an enum. Assumes nothing.
use Rattle.std.specs.Prelude.{ℕ, List, [], ◌∷◌}
use Rattle.descriptor.specs.Descriptor.{Bytes, ValueDescriptor}
use Rattle.options.specs.Settings.{Setting}
use Rattle.descriptor.specs.Accessors.{text}
use Rattle.joined.specs.Joined.{fits}
use Rattle.code_generator.specs.Piece.{Text, nothing, ◌⟫◌, when}
use Rattle.code_generator.specs.Attributes.{append_field_attributes}
use Rattle.code_generator.specs.Enums.{variant_lines, as_str_arm, from_str_arm}
use Rattle.enum_arms.specs.declared.Arm.{Arm}
use Rattle.enum_arms.specs.declared.Arm.TheVariants.{Variant, AsStr, FromStr}

module _ (rs : List Setting) where
  unfoldable pub variant_text : ℕ → Bytes → Bytes → ValueDescriptor → Text
  variant_text d full enum v =
      when (fits full (text v.name)) (append_field_attributes rs d full (text v.name)) ⟫ variant_lines rs d enum v

  -- what is written for a value
  unfoldable pub value_text : Arm → ℕ → Bytes → Bytes → ValueDescriptor → Text
  value_text Variant d full enum v = variant_text d full enum v
  value_text AsStr d full enum v = as_str_arm rs d enum v
  value_text FromStr d full enum v = from_str_arm rs d enum v

  unfoldable pub value_texts : Arm → ℕ → Bytes → Bytes → List ValueDescriptor → Text
  value_texts arm d full enum [] = nothing
  value_texts arm d full enum (v ∷ vs) = value_text arm d full enum v ⟫ value_texts arm d full enum vs
