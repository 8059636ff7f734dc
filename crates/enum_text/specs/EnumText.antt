-- The text of an enum as it is written: as `append_enum` says, of its first 256 values (limit 6), where the paths have room in
-- their buffers (limits 8 and 9 leave no longer ones). Assumes nothing.
use Rattle.std.specs.Prelude.{ℕ, Bool, ◌&&◌, not, List, [], ◌∷◌, ◌++◌, map, leb, length, take}
use Rattle.base.specs.Lists.{all}
use Rattle.descriptor.specs.Descriptor.{Bytes, ValueDescriptor, EnumDescriptor}
use Rattle.descriptor.specs.Decode.{entries, parts, decode_enum}
use Rattle.options.specs.Settings.{Setting}
use Rattle.extern_paths.specs.ExternPaths.{taken}
use Rattle.name_rules.specs.Accessors.{text}
use Rattle.name_rules.specs.FullNames.{◌·◌}
use Rattle.joined.specs.Joined.{fits}
use Rattle.code_generator.specs.Piece.{Text, ◌⟫◌, when, flat}
use Rattle.code_generator.specs.Enums.{build_enum_value_mappings, enum_impl}
use Rattle.enum_declaration.specs.DeclarationText.{declaration_text}

abbrev pub first_values : EnumDescriptor → List ValueDescriptor
first_values e = take 256 e.values

-- the enums of a message's part (field number 4) or a file's (5)
abbrev pub enums_in : ℕ → Bytes → List EnumDescriptor
enums_in number s = map decode_enum (parts number (entries s))

-- does it keep to the limits that nothing of its text is left out by? full: its full name
abbrev pub values_fit : Bytes → List ValueDescriptor → Bool
values_fit full vs = all (λ (v : ValueDescriptor). fits full (text v.name)) vs

unfoldable pub enum_fits : Bytes → EnumDescriptor → Bool
enum_fits scope e = fits scope (text e.name) && (leb (length e.values) 256 && values_fit (scope · text e.name) e.values)

module _ (rs : List Setting) where
  -- of an enum that no extern path takes
  unfoldable pub written_text : ℕ → Bytes → Bytes → List ValueDescriptor → Text
  written_text d full enum vs = declaration_text rs d full enum vs ⟫ enum_impl rs d enum vs

  -- left out where an extern path takes it
  unfoldable pub enum_tree : ℕ → Bytes → EnumDescriptor → Text
  enum_tree d scope e =
      when (fits scope (text e.name))
      (when (not (taken rs (scope · text e.name)))
      (written_text d (scope · text e.name) (text e.name) (build_enum_value_mappings (first_values e))))

  unfoldable pub enum_text : ℕ → Bytes → EnumDescriptor → Bytes
  enum_text d scope e = flat (enum_tree d scope e)

  unfoldable pub enum_texts : ℕ → Bytes → List EnumDescriptor → Bytes
  enum_texts d scope [] = []
  enum_texts d scope (e ∷ es) = enum_text d scope e ++ enum_texts d scope es
