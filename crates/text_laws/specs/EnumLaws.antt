-- The enums of a scope that fit: their text, and refusal 8. Assumes nothing.
use Rattle.std.specs.Prelude.{ℕ, ◌≡◌}
use Rattle.std.proofs.Math.Path.{refl, ap₂}
use Rattle.std.proofs.Math.Bool.{◌||◌}
use mathlib.Core.List.{List, [], ◌∷◌, ◌++◌, map}
use Rattle.base.specs.Lists.{any, Every}
use Rattle.descriptor.specs.Descriptor.{Bytes, EnumDescriptor}
use Rattle.descriptor.specs.Decode.{decode_enum}
use Rattle.options.specs.Settings.{Setting}
use Rattle.path_fits.specs.PathsFit.{EnumFits}
use Rattle.enum_text.specs.EnumText.{enum_texts}
use Rattle.enum_fits.proofs.EnumsFit.{text_whole, meets_whole}
use Rattle.file_faults.specs.FileFaults.{enums_meet}
use Rattle.code_generator.specs.Piece.{flat}
use Rattle.code_generator.specs.Enums.{append_enums}
use Rattle.code_generator.specs.Refusals.{enum_overlaps}

module _ (rs : List Setting) (scope : Bytes) where
  pub enums_are : (d : ℕ) (es : List EnumDescriptor) → Every (EnumFits scope) es → enum_texts rs d scope es ≡ flat (append_enums rs d scope es)
  unfolding enum_texts append_enums
  enums_are d [] h = refl
  enums_are d (e ∷ es) h = ap₂ ◌++◌ (text_whole scope e h.0 rs d) (enums_are d es h.1)

  pub enums_meet_is : (qs : List Bytes) → Every (EnumFits scope) (map decode_enum qs) → enums_meet rs scope qs ≡ any (enum_overlaps rs scope) (map decode_enum qs)
  unfolding any
  enums_meet_is [] h = refl
  enums_meet_is (q ∷ qs) h = ap₂ ◌||◌ (meets_whole scope (decode_enum q) h.0 rs) (enums_meet_is qs h.1)
