-- Refusal 8 of one enum, as it is found: as `enum_overlaps` says, of its first 256 values (limit 6), where the names have room in a
-- buffer (limit 8 leaves no longer ones). Assumes nothing.
use Rattle.std.specs.Prelude.{ℕ, Bool, false, ◌&&◌, not, List, [], ◌∷◌, leb, length}
use Rattle.base.specs.Choose.{choose}
use Rattle.base.specs.Lists.{all}
use Rattle.checksums.specs.Sums.{sum_of}
use Rattle.descriptor.specs.Descriptor.{Bytes, ValueDescriptor, EnumDescriptor}
use Rattle.options.specs.Settings.{Setting}
use Rattle.extern_paths.specs.ExternPaths.{taken}
use Rattle.name_rules.specs.Accessors.{text}
use Rattle.name_rules.specs.FullNames.{◌·◌}
use Rattle.joined.specs.Joined.{max_path, fits}
use Rattle.code_generator.specs.Piece.{spelt}
use Rattle.code_generator.specs.Enums.{build_enum_value_mappings, generated_variant_name}
use Rattle.code_generator.specs.Refusals.{overlap}
use Rattle.enum_text.specs.EnumText.{first_values, enum_fits}

module _ (rs : List Setting) (enum : Bytes) where
  unfoldable pub variant_name : ValueDescriptor → Bytes
  variant_name v = spelt (generated_variant_name rs enum v)

  unfoldable pub has_room : ValueDescriptor → Bool
  has_room v = leb (length (variant_name v)) max_path

  -- the names that have room
  unfoldable pub names : List ValueDescriptor → List Bytes
  names [] = []
  names (v ∷ vs) = choose (has_room v) (variant_name v ∷ names vs) (names vs)

  -- where a value's name has room, what is asked of it
  unfoldable pub asked : (Bytes → Bool) → ValueDescriptor → Bool
  asked p v = has_room v && p (variant_name v)

  -- the checksum of a name that has room
  unfoldable pub value_sums : ValueDescriptor → List ℕ
  value_sums v = choose (has_room v) (sum_of (variant_name v) ∷ []) []

module _ (rs : List Setting) where
  unfoldable pub enum_meets : Bytes → EnumDescriptor → Bool
  enum_meets scope e =
      choose (fits scope (text e.name))
      (not (taken rs (scope · text e.name)) && overlap (names rs (text e.name) (build_enum_value_mappings (first_values e))))
      false

  -- does it keep to the limits that nothing is left out by?
  unfoldable pub meets_fully : Bytes → EnumDescriptor → Bool
  meets_fully scope e = enum_fits scope e && all (has_room rs (text e.name)) e.values
