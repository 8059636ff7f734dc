-- Refusals 8 and 9 of a file, over the declarations that append_message and append_enum write. Assumes nothing.
use Rattle.std.specs.Prelude.{Bool, true, false, not, ◌&&◌, ◌||◌, List, [], ◌∷◌, map, ◌==◌}
use Rattle.std.proofs.Math.Option.{Option, some, none}
use Rattle.base.specs.Lists.{any}
use Rattle.path.specs.Forms.{among}
use Rattle.c_escaping.specs.Unescape.{unescapes}
use Rattle.field_types.specs.Types.{sort_of, bytes}
use Rattle.descriptor.specs.Descriptor.{Bytes, Forest, done, node, FieldDescriptor, ValueDescriptor, EnumDescriptor, MessageDescriptor, FileDescriptor}
use Rattle.options.specs.Settings.{Setting}
use Rattle.extern_paths.specs.ExternPaths.{taken}
use Rattle.name_rules.specs.Accessors.{text, type}
use Rattle.name_rules.specs.FullNames.{◌·◌, package_scope}
use Rattle.code_generator.specs.Piece.{spelt}
use Rattle.code_generator.specs.MapFields.{MapEntry, map_entry_of}
use Rattle.code_generator.specs.Oneofs.{plain_fields}
use Rattle.code_generator.specs.Enums.{build_enum_value_mappings, generated_variant_name}

-- does the test hold of a written message? Of each it is given the full name, and what is nested in it
unfoldable pub any_message : List Setting → (Bytes → MessageDescriptor → Forest MessageDescriptor → Bool) → Bytes → Forest MessageDescriptor → Bool
any_message rs p scope done = false
any_message rs p scope (node m nested following) =
    (not (m.map_entry || taken rs (scope · text m.name))
    && (p (scope · text m.name) m nested || any_message rs p (scope · text m.name) nested))
    || any_message rs p scope following

-- ---- refusal 8: two variants of a written enum have the same name
-- are two of these the same?
unfoldable pub overlap : List Bytes → Bool
overlap [] = false
overlap (x ∷ xs) = among x xs || overlap xs

module _ (rs : List Setting) where
  -- generated_names: those of the values that are left
  abbrev pub generated_names : EnumDescriptor → List Bytes
  generated_names e = map (λ (v : ValueDescriptor). spelt (generated_variant_name rs (text e.name) v)) (build_enum_value_mappings e.values)

  unfoldable pub enum_overlaps : Bytes → EnumDescriptor → Bool
  enum_overlaps scope e = not (taken rs (scope · text e.name)) && overlap (generated_names e)

  unfoldable pub variants_overlap : FileDescriptor → Bool
  variants_overlap f =
      any_message rs (λ full m nested. any (enum_overlaps full) m.enums) (package_scope f.package_name) f.messages
      || any (enum_overlaps (package_scope f.package_name)) f.enums

-- ---- refusal 9: a bytes default that is written, i.e. append_field's, doesn't unescape
abbrev pub is_given : Option MapEntry → Bool
is_given none = false
is_given (some e) = true

abbrev pub given_fails : Option Bytes → Bool
given_fails none = false
given_fails (some v) = not (unescapes v)

unfoldable pub default_fails : Bytes → Forest MessageDescriptor → FieldDescriptor → Bool
default_fails full nested f =
    not (is_given (map_entry_of full nested f.type_name)) && (sort_of (type f) == bytes && given_fails f.default_value)

unfoldable pub defaults_fail : List Setting → FileDescriptor → Bool
defaults_fail rs f =
    any_message rs (λ full m nested. any (default_fails full nested) (plain_fields m.fields)) (package_scope f.package_name) f.messages
