-- Within the limits the text is `append_enum`'s. Assumes nothing.
use Prim.Native.Nat.{ℕ, suc, ◌≤◌}
use mathlib.Core.Path.{◌≡◌, refl, ap}
use mathlib.Core.Bool.{Bool, true, ◌&&◌}
use mathlib.Core.List.{List, [], ◌∷◌, ◌++◌}
use lib.Dec.{leb}
use lib.ListN.{length}
use lib.Seq.{take_all}
use borrow.Author.Tests.{leb-true}
use Rattle.base.specs.Choose.{choose_case}
use Rattle.base.specs.Lists.{all}
use Rattle.base.specs.Tests.{and_left, and_right, and_both}
use Rattle.descriptor.specs.Descriptor.{Bytes, ValueDescriptor, EnumDescriptor}
use Rattle.options.specs.Settings.{Setting}
use Rattle.name_rules.specs.Accessors.{text}
use Rattle.name_rules.specs.FullNames.{◌·◌}
use Rattle.joined.specs.Joined.{fits}
use Rattle.code_generator.specs.Piece.{flat}
use Rattle.code_generator.specs.Attributes.{append_field_attributes}
use Rattle.code_generator.specs.Enums.{value_number, is_used, mappings_from, build_enum_value_mappings, variant_lines, enum_variant, enum_variants, enum_declaration, append_enum, append_enums}
use Rattle.enum_arms.specs.declared.Arm.TheVariants.{Variant}
use Rattle.enum_arms.specs.ValueText.{variant_text, value_text, value_texts}
use Rattle.enum_declaration.specs.DeclarationText.{declaration_text}
use Rattle.enum_text.specs.EnumText.{values_fit, enum_fits, written_text, enum_tree, enum_text, enum_texts}

-- what holds of all values holds of those that are kept
pub all_kept : (p : ValueDescriptor → Bool) (us : List ℕ) (vs : List ValueDescriptor) → all p vs ≡ true → all p (mappings_from us vs) ≡ true
unfolding all mappings_from
all_kept p us [] h = refl
all_kept p us (v ∷ vs) h =
    choose_case (λ (l : List ValueDescriptor). all p l ≡ true) (is_used (value_number v) us) (λ _. all_kept p us vs (and_right (p v) (all p vs) h))
    (λ _. and_both (and_left (p v) (all p vs) h) (all_kept p (value_number v ∷ us) vs (and_right (p v) (all p vs) h)))

module _ (rs : List Setting) (d : ℕ) where
  variants_are : (full enum : Bytes) (vs : List ValueDescriptor) → values_fit full vs ≡ true → flat (value_texts rs Variant d full enum vs) ≡ flat (enum_variants rs d full enum vs)
  unfolding all value_texts value_text variant_text enum_variants enum_variant
  variants_are full enum [] h = refl
  variants_are full enum (v ∷ vs) h =
      rw (and_left (fits full (text v.name)) (values_fit full vs) h)
      (ap (λ (l : List ℕ). flat (append_field_attributes rs d full (text v.name)) ++ flat (variant_lines rs d enum v) ++ l)
      (variants_are full enum vs (and_right (fits full (text v.name)) (values_fit full vs) h)))

module _ (rs : List Setting) (d : ℕ) where
  declaration_is : (full enum : Bytes) (vs : List ValueDescriptor) → values_fit full vs ≡ true → flat (declaration_text rs d full enum vs) ≡ flat (enum_declaration rs d full enum vs)
  unfolding declaration_text enum_declaration
  declaration_is full enum vs h = rw (variants_are rs (suc d) full enum vs h)

  pub enum_text_is : (scope : Bytes) (e : EnumDescriptor) → enum_fits scope e ≡ true → enum_text rs d scope e ≡ flat (append_enum rs d scope e)
  unfolding enum_fits enum_text enum_tree written_text append_enum
  enum_text_is scope e h =
      let full : Bytes = scope · text e.name in
      let room = and_left (fits scope (text e.name)) (leb (length e.values) 256 && values_fit full e.values) h in
      let rest = and_right (fits scope (text e.name)) (leb (length e.values) 256 && values_fit full e.values) h in
      let few : length e.values ≤ 256 = leb-true (length e.values) 256 (and_left (leb (length e.values) 256) (values_fit full e.values) rest) in
      let all_fit = all_kept (λ (v : ValueDescriptor). fits full (text v.name)) [] e.values (and_right (leb (length e.values) 256) (values_fit full e.values) rest) in
      rw (room, take_all 256 e.values few, declaration_is full (text e.name) (build_enum_value_mappings e.values) all_fit)

  pub enum_texts_are : (scope : Bytes) (es : List EnumDescriptor) → all (enum_fits scope) es ≡ true → enum_texts rs d scope es ≡ flat (append_enums rs d scope es)
  unfolding all enum_texts append_enums
  enum_texts_are scope [] h = refl
  enum_texts_are scope (e ∷ es) h =
      rw (enum_text_is scope e (and_left (enum_fits scope e) (all (enum_fits scope) es) h), enum_texts_are scope es (and_right (enum_fits scope e) (all (enum_fits scope) es) h))
