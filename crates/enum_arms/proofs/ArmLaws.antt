-- The arms of all values are those of `as_str_name` and `from_str_name`. Assumes nothing.
use Prim.Native.Nat.{ℕ}
use mathlib.Core.Path.{◌≡◌, refl, ap}
use mathlib.Core.List.{List, [], ◌∷◌}
use Rattle.descriptor.specs.Descriptor.{Bytes, ValueDescriptor}
use Rattle.options.specs.Settings.{Setting}
use Rattle.code_generator.specs.Piece.{Text, ◌⟫◌}
use Rattle.code_generator.specs.Enums.{as_str_arm, as_str_arms, from_str_arm, from_str_arms}
use Rattle.enum_arms.specs.ValueText.{value_text, value_texts}
use Rattle.enum_arms.specs.declared.Arm.TheVariants.{AsStr, FromStr}

module _ (rs : List Setting) (d : ℕ) (full enum : Bytes) where
  pub as_str_arms_are : (vs : List ValueDescriptor) → value_texts rs AsStr d full enum vs ≡ as_str_arms rs d enum vs
  unfolding value_texts value_text as_str_arms
  as_str_arms_are [] = refl
  as_str_arms_are (v ∷ vs) = ap (λ (x : Text). as_str_arm rs d enum v ⟫ x) (as_str_arms_are vs)

  pub from_str_arms_are : (vs : List ValueDescriptor) → value_texts rs FromStr d full enum vs ≡ from_str_arms rs d enum vs
  unfolding value_texts value_text from_str_arms
  from_str_arms_are [] = refl
  from_str_arms_are (v ∷ vs) = ap (λ (x : Text). from_str_arm rs d enum v ⟫ x) (from_str_arms_are vs)
