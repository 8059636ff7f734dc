-- A worked set: two packages and one that an extern path takes, every kind of field; and its texts. Assumes nothing.
use Rattle.std.specs.Prelude.{◌≡◌, ℕ, Bool, true, false, List, [], ◌∷◌, ◌++◌, map, refl}
use Prim.Native.String.{String}
use Rattle.std.proofs.Math.Option.{Option, some, none}
use Rattle.base.specs.Bytes.{b, same}
use Rattle.base.specs.Choose.{choose}
use Rattle.base.specs.Lists.{all, any}
use Rattle.writer.specs.Text.{indent}
use Rattle.writer.specs.Decimal.{digits, signed}
use Rattle.heck.specs.Case.{between, class, lowered, raised, parts, words, to_snake_case, to_upper_camel_case}
use Rattle.ident.specs.Ident.{among, raw_words, kept_words, addition, with_addition, sanitize_identifier, to_snake, to_upper_camel, strip_prefix, true_prefix, strip_enum_prefix}
use Rattle.field_types.specs.Types.{sort_of, tag_word, rust_word, can_pack, type_eq}
use Rattle.syntax.specs.Syntax.{syntax_of}
use Rattle.descriptor.specs.Descriptor.{Bytes, done, node, FieldDescriptor, EnumDescriptor, MessageDescriptor, FileDescriptor}
use Rattle.options.specs.Settings.{Setting, first_of_kind, value_of, strips_prefix}
use Rattle.path.specs.Forms.{behind_dots, before_dots, filled, suffixes, prefixes, sub_path_iter}
use Rattle.path.specs.PathMap.{get_in, first_with, find_best}
use Rattle.extern_paths.specs.Split.{begins, split_behind, split}
use Rattle.extern_paths.specs.ExternPaths.{extern_paths, taken, extern_text, first_segment, resolve_by, resolve_ident as resolve_path}
use Rattle.name_rules.specs.FullNames.{entries, set_entries}
use Rattle.context.specs.MessageGraph.{fields_of, field_links, links, leads, is_nested}
use Rattle.context.specs.Context.{should_box, field_copy, message_copy, can_message_derive_copy, can_field_derive_copy, field_eq, message_eq, can_message_derive_eq, can_field_derive_eq}
use Rattle.code_generator.specs.Piece.{through, way_text}
use Rattle.code_generator.specs.Resolve.{local_path, ident_path, ident_type, skip_common, way, prost, resolve_ident, resolve_bytes, resolve_type, tag_ident, field_type_tag, map_value_type_tag}
use Rattle.code_generator.specs.Attributes.{attributes, append_deprecated, append_type_attributes, append_message_attributes, append_enum_attributes, append_field_attributes, derive, append_prost_path_attribute, append_skip_debug}
use Rattle.code_generator.specs.Fields.{optional, unpacked, label_tag, bytes_annotation, enum_value, default_text, default_tag, field_tag, shape_open, shape_close, box_open, box_close, field_line, append_field}
use Rattle.code_generator.specs.MapFields.{map_entry_of, map_tag, map_open, map_line, append_map_field}
use Rattle.code_generator.specs.Oneofs.{plain_fields, fields_at, nested_meets, enum_meets, oneofs_from, more_tags, tags, oneof_tag, oneof_line, append_oneof_field, append_oneof_fields, variant_tag, variant_line, append_variant, append_variants, append_oneof, append_oneofs}
use Rattle.code_generator.specs.Enums.{is_used, mappings_from, variant_lines, enum_variant, enum_variants, as_str_arm, as_str_arms, from_str_arm, from_str_arms, enum_derive, as_str_name, from_str_name, enum_impl, enum_declaration, append_enum, append_enums}
use Rattle.code_generator.specs.Generate.{has_nested_types, push_mod, append_fields, append_struct, append_messages, generate, file_text}

abbrev pub field : String → ℕ → ℕ → ℕ → Option Bytes → Option ℕ → FieldDescriptor
field name number label type type_name oneof =
    record {
      name = some (b name);
      number = some number;
      label = some label;
      type = some type;
      type_name = type_name;
      default_value = none;
      options = none;
      oneof_index = oneof;
      proto3_optional = false;
    }

-- a field of type message, optional or repeated
abbrev pub one : String → ℕ → String → FieldDescriptor
one name number type = field name number 1 11 (some (b type)) none

abbrev pub many : String → ℕ → String → FieldDescriptor
many name number type = field name number 3 11 (some (b type)) none

abbrev pub variant : String → ℕ → String → FieldDescriptor
variant name number type = field name number 1 11 (some (b type)) (some 0)

abbrev pub message : String → List FieldDescriptor → List EnumDescriptor → Bool → List (Option Bytes) → MessageDescriptor
message name fields enums map_entry oneofs = record { name = some (b name); fields = fields; enums = enums; map_entry = map_entry; oneofs = oneofs }

-- a tree with all that a field can be: of its own type; of another package's, which leads back; an enum; a map; repeated; of a type that an
-- extern path takes, which leads back too; of a nested type, which doesn't; and a oneof of these
abbrev pub tree : MessageDescriptor
tree =
    message "Tree"
    (one "left" 1 ".a.b.Tree"
    ∷ one "forest" 2 ".a.c.Forest"
    ∷ field "kind" 3 1 14 (some (b ".a.b.Tree.Kind")) none
    ∷ many "by_name" 4 ".a.b.Tree.ByNameEntry"
    ∷ many "children" 5 ".a.b.Tree"
    ∷ one "stamp" 6 ".x.Stamp"
    ∷ one "note" 7 ".a.b.Tree.Note"
    ∷ variant "leaf" 8 ".a.b.Tree.Note"
    ∷ variant "branch" 9 ".a.b.Tree"
    ∷ [])
    (record { name = some (b "Kind"); values = record { name = some (b "OAK"); number = some 0; deprecated = false } ∷ [] } ∷ []) false (some (b "shape") ∷ [])

abbrev pub by_name_entry : MessageDescriptor
by_name_entry = message "ByNameEntry" (field "key" 1 1 9 none none ∷ one "value" 2 ".a.b.Tree" ∷ []) [] true []

abbrev pub set : List FileDescriptor
set =
    record { package_name = some (b "a.b"); syntax = none; messages = node tree (node (message "Note" [] [] false []) done (node by_name_entry done done)) done; enums = [] }
    ∷ record { package_name = some (b "a.c"); syntax = none; messages = node (message "Forest" (one "tree" 1 ".a.b.Tree" ∷ []) [] false []) done done; enums = [] }
    ∷ record { package_name = some (b "x"); syntax = none; messages = node (message "Stamp" (one "tree" 1 ".a.b.Tree" ∷ []) [] false []) done done; enums = [] }
    ∷ []

-- one extern path
abbrev pub rs : List Setting
rs = record { kind = 1; path = b ".x"; value = b "::x" } ∷ []

-- ---- its texts
abbrev pub tree_text : Bytes
tree_text =
    b "#[derive(Clone, PartialEq, ::prost::Message)]\n"
    ++ b "pub struct Tree {\n"
    ++ b "    #[prost(message, optional, boxed, tag = \"1\")]\n"
    ++ b "    pub left: ::core::option::Option<::prost::alloc::boxed::Box<Tree>>,\n"
    ++ b "    #[prost(message, optional, boxed, tag = \"2\")]\n"
    ++ b "    pub forest: ::core::option::Option<::prost::alloc::boxed::Box<super::c::Forest>>,\n"
    ++ b "    #[prost(enumeration = \"tree::Kind\", optional, tag = \"3\")]\n"
    ++ b "    pub kind: ::core::option::Option<i32>,\n"
    ++ b "    #[prost(map = \"string, message\", tag = \"4\")]\n"
    ++ b "    pub by_name: ::std::collections::HashMap<::prost::alloc::string::String, Tree>,\n"
    ++ b "    #[prost(message, repeated, tag = \"5\")]\n"
    ++ b "    pub children: ::prost::alloc::vec::Vec<Tree>,\n"
    ++ b "    #[prost(message, optional, boxed, tag = \"6\")]\n"
    ++ b "    pub stamp: ::core::option::Option<::prost::alloc::boxed::Box<::x::Stamp>>,\n"
    ++ b "    #[prost(message, optional, tag = \"7\")]\n"
    ++ b "    pub note: ::core::option::Option<tree::Note>,\n"
    ++ b "    #[prost(oneof = \"tree::Shape\", tags = \"8, 9\")]\n"
    ++ b "    pub shape: ::core::option::Option<tree::Shape>,\n"
    ++ b "}\n"
    ++ b "/// Nested message and enum types in `Tree`.\n"
    ++ b "pub mod tree {\n"
    ++ b "    #[derive(Clone, Copy, PartialEq, Eq, Hash, ::prost::Message)]\n"
    ++ b "    pub struct Note {\n"
    ++ b "    }\n"
    ++ b "    #[derive(Clone, Copy, Debug, PartialEq, Eq, Hash, PartialOrd, Ord, ::prost::Enumeration)]\n"
    ++ b "    #[repr(i32)]\n"
    ++ b "    pub enum Kind {\n"
    ++ b "        Oak = 0,\n"
    ++ b "    }\n"
    ++ b "    impl Kind {\n"
    ++ b "        /// String value of the enum field names used in the ProtoBuf definition.\n"
    ++ b "        ///\n"
    ++ b "        /// The values are not transformed in any way and thus are considered stable\n"
    ++ b "        /// (if the ProtoBuf definition does not change) and safe for programmatic use.\n"
    ++ b "        pub fn as_str_name(&self) -> &'static str {\n"
    ++ b "            match self {\n"
    ++ b "                Self::Oak => \"OAK\",\n"
    ++ b "            }\n"
    ++ b "        }\n"
    ++ b "        /// Creates an enum from field names used in the ProtoBuf definition.\n"
    ++ b "        pub fn from_str_name(value: &str) -> ::core::option::Option<Self> {\n"
    ++ b "            match value {\n"
    ++ b "                \"OAK\" => Some(Self::Oak),\n"
    ++ b "                _ => None,\n"
    ++ b "            }\n"
    ++ b "        }\n"
    ++ b "    }\n"
    ++ b "    #[derive(Clone, PartialEq, ::prost::Oneof)]\n"
    ++ b "    pub enum Shape {\n"
    ++ b "        #[prost(message, tag = \"8\")]\n"
    ++ b "        Leaf(Note),\n"
    ++ b "        #[prost(message, tag = \"9\")]\n"
    ++ b "        Branch(::prost::alloc::boxed::Box<super::Tree>),\n"
    ++ b "    }\n"
    ++ b "}\n"

abbrev pub forest_text : Bytes
forest_text =
    b "#[derive(Clone, PartialEq, ::prost::Message)]\n"
    ++ b "pub struct Forest {\n"
    ++ b "    #[prost(message, optional, boxed, tag = \"1\")]\n"
    ++ b "    pub tree: ::core::option::Option<::prost::alloc::boxed::Box<super::b::Tree>>,\n"
    ++ b "}\n"

-- the third file's one message is taken by the extern path
pub texts : map (λ (f : FileDescriptor). file_text rs set f) set ≡ tree_text ∷ forest_text ∷ [] ∷ []
unfolding choose same all any indent digits between class lowered raised parts words to_snake_case to_upper_camel_case among raw_words kept_words addition with_addition sanitize_identifier to_snake to_upper_camel begins split_behind split sort_of tag_word rust_word can_pack type_eq syntax_of first_of_kind value_of behind_dots before_dots filled suffixes prefixes sub_path_iter get_in first_with find_best extern_paths taken entries set_entries fields_of field_links links leads is_nested should_box field_copy message_copy can_message_derive_copy can_field_derive_copy field_eq message_eq can_message_derive_eq can_field_derive_eq local_path ident_path ident_type skip_common way prost resolve_ident resolve_bytes resolve_type tag_ident field_type_tag map_value_type_tag attributes append_deprecated append_type_attributes append_message_attributes append_enum_attributes append_field_attributes derive append_prost_path_attribute append_skip_debug optional unpacked label_tag bytes_annotation enum_value default_text default_tag field_tag shape_open shape_close box_open box_close field_line append_field map_entry_of map_tag map_open map_line append_map_field plain_fields fields_at nested_meets enum_meets oneofs_from more_tags tags oneof_tag oneof_line append_oneof_field append_oneof_fields variant_tag variant_line append_variant append_variants append_oneof append_oneofs is_used mappings_from variant_lines enum_variant enum_variants as_str_arm as_str_arms from_str_arm from_str_arms enum_derive as_str_name from_str_name enum_impl enum_declaration append_enum append_enums has_nested_types push_mod append_fields append_struct append_messages generate through way_text extern_text resolve_path resolve_by first_segment strips_prefix strip_prefix true_prefix strip_enum_prefix signed
texts = refl
