-- Document 01's rows that are about paths, and its example text. Assumes nothing.
use Rattle.std.specs.Prelude.{◌≡◌, false, List, [], ◌∷◌, refl}
use Rattle.std.proofs.Math.Option.{some, none}
use Rattle.base.specs.Bytes.{b, same}
use Rattle.base.specs.Choose.{choose}
use Rattle.base.specs.Lists.{all}
use Rattle.writer.specs.Text.{indent}
use Rattle.writer.specs.Decimal.{digits}
use Rattle.heck.specs.Case.{between, class, lowered, raised, parts, words, to_snake_case, to_upper_camel_case}
use Rattle.ident.specs.Ident.{among, raw_words, kept_words, addition, with_addition, sanitize_identifier, to_snake, to_upper_camel}
use Rattle.field_types.specs.Types.{sort_of, tag_word, rust_word, can_pack, type_eq}
use Rattle.syntax.specs.Syntax.{syntax_of}
use Rattle.descriptor.specs.Descriptor.{done, node, FieldDescriptor, MessageDescriptor, FileDescriptor}
use Rattle.options.specs.Settings.{Setting, first_of_kind, value_of}
use Rattle.path.specs.Forms.{behind_dots, before_dots, filled, suffixes, prefixes, sub_path_iter}
use Rattle.path.specs.PathMap.{get_in, first_with, find_best}
use Rattle.extern_paths.specs.Split.{begins, split_behind, split}
use Rattle.extern_paths.specs.ExternPaths.{extern_paths, taken}
use Rattle.name_rules.specs.FullNames.{entries, set_entries}
use Rattle.context.specs.MessageGraph.{fields_of}
use Rattle.context.specs.Context.{should_box, field_copy, field_eq, message_copy, message_eq, can_message_derive_copy, can_message_derive_eq}
use Rattle.code_generator.specs.Piece.{through, way_text, flat}
use Rattle.code_generator.specs.Resolve.{local_path, ident_path, ident_type, skip_common, way, prost, resolve_ident, resolve_type, field_type_tag}
use Rattle.code_generator.specs.Attributes.{attributes, append_deprecated, append_type_attributes, append_message_attributes, append_field_attributes, derive, append_prost_path_attribute, append_skip_debug}
use Rattle.code_generator.specs.Fields.{optional, label_tag, bytes_annotation, default_tag, field_tag, shape_open, shape_close, box_open, box_close, field_line, append_field}
use Rattle.code_generator.specs.MapFields.{map_entry_of}
use Rattle.code_generator.specs.Oneofs.{plain_fields, oneofs_from, append_oneof_fields}
use Rattle.code_generator.specs.Enums.{append_enums}
use Rattle.code_generator.specs.Generate.{has_nested_types, append_fields, append_struct, append_messages, generate, file_text}

-- ---- paths, where no extern path takes the type
-- the struct of a type that is nested in message M of a.b stands in the scope `.a.b.M`
pub path_from_nested : (rs : List Setting) → taken rs (b ".a.c.T") ≡ false → flat (resolve_ident rs (b ".a.b.M") (b ".a.c.T")) ≡ b "super::super::c::T"
unfolding choose same between class lowered raised parts words to_snake_case to_upper_camel_case among raw_words kept_words addition with_addition sanitize_identifier to_snake to_upper_camel begins split_behind split through way_text local_path ident_path ident_type skip_common way resolve_ident
path_from_nested rs h = rw h

pub path_at_top : (rs : List Setting) → taken rs (b ".a.b.T") ≡ false → flat (resolve_ident rs (b ".a.b") (b ".a.b.T")) ≡ b "T"
unfolding choose same between class lowered raised parts words to_snake_case to_upper_camel_case among raw_words kept_words addition with_addition sanitize_identifier to_snake to_upper_camel begins split_behind split through way_text local_path ident_path ident_type skip_common way resolve_ident
path_at_top rs h = rw h

-- ---- package chair, proto3, message Stick with an optional-labelled sint32 dx = 1; no options
abbrev dx : FieldDescriptor
dx =
    record {
      name = some (b "dx");
      number = some 1;
      label = some 1;
      type = some 17;
      type_name = none;
      default_value = none;
      options = none;
      oneof_index = none;
      proto3_optional = false;
    }

abbrev stick : MessageDescriptor
stick = record { name = some (b "Stick"); fields = dx ∷ []; enums = []; map_entry = false; oneofs = [] }

abbrev chair : FileDescriptor
chair = record { package_name = some (b "chair"); syntax = some (b "proto3"); messages = node stick done done; enums = [] }

pub stick_text : file_text [] (chair ∷ []) chair ≡ b "#[derive(Clone, Copy, PartialEq, Eq, Hash, ::prost::Message)]\npub struct Stick {\n    #[prost(sint32, tag = \"1\")]\n    pub dx: i32,\n}\n"
unfolding choose same indent digits between class lowered raised parts words to_snake_case to_upper_camel_case among raw_words kept_words addition with_addition sanitize_identifier to_snake to_upper_camel sort_of tag_word rust_word can_pack syntax_of first_of_kind value_of behind_dots before_dots filled suffixes prefixes sub_path_iter get_in first_with find_best extern_paths taken entries set_entries fields_of all type_eq should_box field_copy field_eq message_copy message_eq can_message_derive_copy can_message_derive_eq prost resolve_type field_type_tag attributes append_deprecated append_type_attributes append_message_attributes append_field_attributes derive append_prost_path_attribute append_skip_debug optional label_tag bytes_annotation default_tag field_tag shape_open shape_close box_open box_close field_line append_field plain_fields oneofs_from append_enums map_entry_of has_nested_types append_fields append_oneof_fields append_struct append_messages generate
stick_text = refl
