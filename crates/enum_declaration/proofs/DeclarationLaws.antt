-- A declaration at a depth where nothing is written behind its derives. Assumes nothing.
use Prim.Native.Nat.{ℕ, ◌^◌, ◌≤◌}
use mathlib.Core.Path.{◌≡◌, ap, ◌∙◌}
use mathlib.Core.Bool.{not}
use mathlib.Core.List.{List}
use Rattle.writer.specs.declared.text.Text.{Text as Buffered}
use Rattle.descriptor.specs.Descriptor.{Bytes, ValueDescriptor}
use Rattle.options.specs.Settings.{Setting}
use Rattle.path.specs.PathMap.{get}
use Rattle.context.specs.Context.{should_skip_debug}
use Rattle.code_generator.specs.Piece.{◌⟫◌, when, lit}
use Rattle.code_generator.specs.Writing.{◌⊳◌}
use Rattle.code_generator.specs.Resolve.{prost}
use Rattle.code_generator.specs.Attributes.{attributes, append_type_attributes, append_enum_attributes}
use Rattle.code_generator.specs.Enums.{enum_derive}
use Rattle.enum_arms.proofs.DeepLaws.{nothing_more}
use Rattle.enum_declaration.specs.DeclarationText.{behind_derive, declaration_text}

module _ (rs : List Setting) (d : ℕ) (full own : Bytes) (vs : List ValueDescriptor) where
  abbrev head : Buffered → Bytes → Buffered
  head t s = t ⊳ attributes d (get 5 s rs) ⊳ attributes d (get 8 s rs) ⊳ enum_derive rs d s

  pub deep_declaration : (t t₁ t₂ u : Buffered) (s : Bytes) → 2 ^ 62 ≤ d → t₁ ≡ t ⊳ attributes d (get 5 s rs) → t₂ ≡ t₁ ⊳ attributes d (get 8 s rs) → u ≡ t₂ ⊳ enum_derive rs d s → s ≡ full → u ≡ t ⊳ declaration_text rs d full own vs
  unfolding enum_derive behind_derive declaration_text append_type_attributes append_enum_attributes
  deep_declaration t t₁ t₂ u s h e₁ e₂ e₃ q =
      nothing_more t₂ u d
      (lit "#[derive(Clone, Copy, "
      ⟫ when (not (should_skip_debug rs s)) (lit "Debug, ")
      ⟫ lit "PartialEq, Eq, Hash, PartialOrd, Ord, "
      ⟫ prost rs
      ⟫ lit "::Enumeration)]\n")
      (behind_derive rs d full own vs) h e₃
      ∙ ap (λ (v : Buffered). v ⊳ behind_derive rs d full own vs)
      (e₃ ∙ ap (λ (v : Buffered). v ⊳ enum_derive rs d s) (e₂ ∙ ap (λ (v : Buffered). v ⊳ attributes d (get 8 s rs)) e₁))
      ∙ ap (λ (r : Bytes). head t r ⊳ behind_derive rs d full own vs) q
