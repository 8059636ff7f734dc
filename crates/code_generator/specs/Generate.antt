-- code_generator.rs: append_message, push_mod, generate. d is the depth. Assumes nothing.
use Rattle.std.specs.Prelude.{ℕ, suc, Bool, true, false, not, ◌||◌, List, [], ◌∷◌}
use Rattle.std.proofs.Math.Option.{Option, some, none}
use Rattle.base.specs.Bytes.{b}
use Rattle.base.specs.Lists.{is_empty}
use Rattle.syntax.specs.Syntax.{Syntax, Proto2, Proto3, Unknown, syntax_of}
use Rattle.descriptor.specs.Descriptor.{Bytes, Forest, done, node, FieldDescriptor, MessageDescriptor, FileDescriptor}
use Rattle.options.specs.Settings.{Setting}
use Rattle.extern_paths.specs.ExternPaths.{taken}
use Rattle.name_rules.specs.Accessors.{text}
use Rattle.name_rules.specs.FullNames.{◌·◌, package_scope}
use Rattle.context.specs.Context.{can_message_derive_copy, can_message_derive_eq}
use Rattle.code_generator.specs.Piece.{Text, nothing, piece, ◌⟫◌, when, raw, mod_open, decl_open, snake, camel, type, flat, lit}
use Rattle.code_generator.specs.Attributes.{line, end, derive, append_type_attributes, append_message_attributes, append_prost_path_attribute, append_skip_debug}
use Rattle.code_generator.specs.Fields.{append_field}
use Rattle.code_generator.specs.MapFields.{MapEntry, map_entry_of, append_map_field}
use Rattle.code_generator.specs.Oneofs.{plain_fields, oneof_fields, append_oneof_fields, append_oneofs}
use Rattle.code_generator.specs.Enums.{append_enums}

-- nested_types: is a message nested that is no map entry?
unfoldable pub has_nested_types : Forest MessageDescriptor → Bool
has_nested_types done = false
has_nested_types (node m nested following) = not m.map_entry || has_nested_types following

abbrev pub has_module : MessageDescriptor → Forest MessageDescriptor → Bool
has_module m nested = not (is_empty m.enums) || (has_nested_types nested || not (is_empty (oneof_fields m nested)))

-- message: the message's own name. `end` is pop_mod
unfoldable pub push_mod : ℕ → Bytes → Text
push_mod d message =
    line d "/// Nested message and enum types in `"
    ⟫ piece (raw message)
    ⟫ lit "`.\n"
    ⟫ line d "pub mod "
    ⟫ piece (mod_open (snake message))
    ⟫ lit " {\n"

module _ (rs : List Setting) (set : List FileDescriptor) (proto3 : Bool) where
  abbrev pub field_or_map : ℕ → Bytes → Bytes → FieldDescriptor → Option MapEntry → Text
  field_or_map d scope full f none = append_field rs set proto3 d scope full f
  field_or_map d scope full f (some e) = append_map_field rs d scope full f e

  unfoldable pub append_fields : ℕ → Bytes → Bytes → Forest MessageDescriptor → List FieldDescriptor → Text
  append_fields d scope full nested [] = nothing
  append_fields d scope full nested (f ∷ fs) =
      field_or_map d scope full f (map_entry_of full nested f.type_name) ⟫ append_fields d scope full nested fs

  -- a message's struct. scope: where it stands; full: the message's full name
  unfoldable pub append_struct : ℕ → Bytes → Bytes → MessageDescriptor → Forest MessageDescriptor → Text
  append_struct d scope full m nested =
      append_type_attributes rs d full
      ⟫ append_message_attributes rs d full
      ⟫ derive rs d (can_message_derive_copy rs set full) (can_message_derive_eq set full) (b "::Message)]\n")
      ⟫ append_prost_path_attribute rs
      ⟫ append_skip_debug rs d full
      ⟫ line d "pub struct "
      ⟫ piece (decl_open (type full) (camel (text m.name)))
      ⟫ lit " {\n"
      ⟫ append_fields (suc d) scope full nested (plain_fields m.fields)
      ⟫ append_oneof_fields rs (suc d) full (text m.name) (oneof_fields m nested)
      ⟫ end d

  -- append_message for each: map entries are left out, and what an extern path takes, with all inside it
  unfoldable pub append_messages : ℕ → Bytes → Forest MessageDescriptor → Text
  append_messages d scope done = nothing
  append_messages d scope (node m nested following) =
      when (not (m.map_entry || taken rs (scope · text m.name)))
      (append_struct d scope (scope · text m.name) m nested
      ⟫ when (has_module m nested)
      (push_mod d (text m.name)
      ⟫ append_messages (suc d) (scope · text m.name) nested
      ⟫ append_enums rs (suc d) (scope · text m.name) m.enums
      ⟫ append_oneofs rs set (suc d) (scope · text m.name) (oneof_fields m nested)
      ⟫ end d))
      ⟫ append_messages d scope following

abbrev pub is_proto3 : Syntax → Bool
is_proto3 Proto2 = false
is_proto3 Proto3 = true
is_proto3 Unknown = false

-- the text of a file of a set
unfoldable pub generate : List Setting → List FileDescriptor → FileDescriptor → Text
generate rs set f =
    append_messages rs set (is_proto3 (syntax_of f.syntax)) 0 (package_scope f.package_name) f.messages
    ⟫ append_enums rs 0 (package_scope f.package_name) f.enums

-- its bytes
abbrev pub file_text : List Setting → List FileDescriptor → FileDescriptor → Bytes
file_text rs set f = flat (generate rs set f)
