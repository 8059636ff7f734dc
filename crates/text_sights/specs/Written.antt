-- What is seen in the text of a file, said of its descriptors: declarations, Box, and document 01's written paths ("the path for a message, group,
-- enum or oneof, in a field's or variant's type or in its `enumeration` or `oneof` tag"). fs: what is open around it; base: where the text stands.
-- Assumes nothing.
use Rattle.std.specs.Prelude.{Bool, not, ◌||◌, List, [], ◌∷◌, ◌++◌, ◌==◌}
use Rattle.std.proofs.Math.Option.{Option, some, none}
use Rattle.base.specs.Choose.{choose}
use Rattle.base.specs.Lists.{all_of}
use Rattle.field_types.specs.Types.{sort_of, group, message, enumerated}
use Rattle.syntax.specs.Syntax.{syntax_of}
use Rattle.descriptor.specs.Descriptor.{Bytes, Forest, done, node, FieldDescriptor, EnumDescriptor, MessageDescriptor, FileDescriptor}
use Rattle.options.specs.Settings.{Setting}
use Rattle.extern_paths.specs.ExternPaths.{taken}
use Rattle.name_rules.specs.Accessors.{text, type as type_of, is_repeated}
use Rattle.name_rules.specs.FullNames.{◌·◌, package_scope}
use Rattle.context.specs.Context.{should_box_message_field, should_box_oneof_field}
use Rattle.code_generator.specs.Piece.{Spelling, snake, camel, spelt, type, choice, Way, opt, vec, box, table}
use Rattle.code_generator.specs.Resolve.{way}
use Rattle.code_generator.specs.Fields.{optional}
use Rattle.code_generator.specs.MapFields.{MapEntry, map_entry_of}
use Rattle.code_generator.specs.Oneofs.{OneofField, plain_fields, oneof_fields, type_name}
use Rattle.code_generator.specs.Generate.{has_module, is_proto3}
use Rattle.sights.specs.Events.{written_path}
use Rattle.sights.specs.Sights.{Item, Label, Sight, an_item, a_path, Frame, in_module, in_declaration, in_field, in_tag, in_wrap, box_seen, module_at, declaration_at, use_at, file_place}

-- is a struct's path written for the type of this field? For a message and a group
abbrev pub names_struct : FieldDescriptor → Bool
names_struct f = sort_of (type_of f) == group || sort_of (type_of f) == message

abbrev pub names_enum : FieldDescriptor → Bool
names_enum f = sort_of (type_of f) == enumerated

-- the name before a field or variant
abbrev pub label_of : Bytes → FieldDescriptor → Spelling → Label
label_of full f n = record { name = spelt n; mark = some (record { message = full; field = f }) }

-- what is open inside a type's wraps
abbrev pub in_shape : Bool → FieldDescriptor → List Frame → List Frame
in_shape proto3 f fs = choose (is_repeated f) (in_wrap vec ∷ fs) (choose (optional proto3 f) (in_wrap opt ∷ fs) fs)

abbrev pub in_box : Bool → List Frame → List Frame
in_box boxed fs = choose boxed (in_wrap box ∷ fs) fs

abbrev pub box_sights : Bool → List Frame → List Sight
box_sights boxed fs = choose boxed (box_seen box fs) []

-- the path of a oneof's type
abbrev pub oneof_way : Bytes → OneofField → Way
oneof_way message x = record { supers = 0; modules = message ∷ []; last = type_name x }

module _ (rs : List Setting) (base : List Bytes) where
  -- ---- a path for a type: none where an extern path takes it
  unfoldable pub ident_sights : List Frame → Bytes → Bytes → List Sight
  ident_sights fs scope ident = choose (taken rs ident) [] (a_path (use_at base fs (some (type ident)) (written_path (way scope ident))) ∷ [])

  unfoldable pub type_sights : List Frame → Bytes → FieldDescriptor → List Sight
  type_sights fs scope f = choose (names_struct f) (ident_sights fs scope (text f.type_name)) []

  unfoldable pub tag_sights : List Frame → Bytes → FieldDescriptor → List Sight
  tag_sights fs scope f = choose (names_enum f) (ident_sights (in_tag ∷ fs) scope (text f.type_name)) []

  -- ---- fields, in the block of their declaration
  unfoldable pub field_sights : List FileDescriptor → Bool → List Frame → Bytes → Bytes → FieldDescriptor → List Sight
  field_sights set proto3 fs scope full f =
      let boxed = should_box_message_field rs set full f in
      let inside = in_shape proto3 f (in_field (label_of full f (snake (text f.name))) ∷ fs) in
      tag_sights fs scope f ++ (box_sights boxed inside ++ type_sights (in_box boxed inside) scope f)

  unfoldable pub map_sights : List Frame → Bytes → Bytes → FieldDescriptor → MapEntry → List Sight
  map_sights fs scope full f e =
      let inside = in_wrap table ∷ in_field (label_of full f (snake (text f.name))) ∷ fs in
      (tag_sights fs scope e.key ++ tag_sights fs scope e.value) ++ (type_sights inside scope e.key ++ type_sights inside scope e.value)

  unfoldable pub variant_sights : List FileDescriptor → List Frame → Bytes → OneofField → FieldDescriptor → List Sight
  variant_sights set fs full x f =
      let boxed = should_box_oneof_field rs set full x.name f in
      let inside = in_field (label_of full f (camel (text f.name))) ∷ fs in
      tag_sights fs full f ++ (box_sights boxed inside ++ type_sights (in_box boxed inside) full f)

  -- the oneof's own field: its path stands in the tag and in the type
  unfoldable pub oneof_field_sights : List Frame → Bytes → Bytes → OneofField → List Sight
  oneof_field_sights fs full message x =
      a_path (use_at base (in_tag ∷ fs) (some (choice full x.name)) (written_path (oneof_way message x)))
      ∷ (a_path (use_at base (in_wrap opt ∷ in_field (record { name = spelt (snake x.name); mark = none }) ∷ fs) (some (choice full x.name)) (written_path (oneof_way message x)))
      ∷ [])

  abbrev pub field_or_map_sights : List FileDescriptor → Bool → List Frame → Bytes → Bytes → FieldDescriptor → Option MapEntry → List Sight
  field_or_map_sights set proto3 fs scope full f none = field_sights set proto3 fs scope full f
  field_or_map_sights set proto3 fs scope full f (some e) = map_sights fs scope full f e

  -- ---- declarations
  abbrev pub struct_item : List Frame → Bytes → MessageDescriptor → Item
  struct_item fs full m = declaration_at base fs (some (type full)) (spelt (camel (text m.name)))

  abbrev pub oneof_item : List Frame → Bytes → OneofField → Item
  oneof_item fs full x = declaration_at base fs (some (choice full x.name)) (spelt (type_name x))

  abbrev pub enum_item : List Frame → Bytes → EnumDescriptor → Item
  enum_item fs full e = declaration_at base fs (some (type full)) (spelt (camel (text e.name)))

  unfoldable pub struct_sights : List FileDescriptor → Bool → List Frame → Bytes → Bytes → MessageDescriptor → Forest MessageDescriptor → List Sight
  struct_sights set proto3 fs scope full m nested =
      let inside = in_declaration (struct_item fs full m) ∷ fs in
      an_item (struct_item fs full m)
      ∷ (all_of (λ (f : FieldDescriptor). field_or_map_sights set proto3 inside scope full f (map_entry_of full nested f.type_name)) (plain_fields m.fields)
      ++ all_of (λ (x : OneofField). oneof_field_sights inside full (text m.name) x) (oneof_fields m nested))

  unfoldable pub oneof_sights : List FileDescriptor → List Frame → Bytes → OneofField → List Sight
  oneof_sights set fs full x = an_item (oneof_item fs full x) ∷ all_of (variant_sights set (in_declaration (oneof_item fs full x) ∷ fs) full x) x.fields

  unfoldable pub enum_sights : List Frame → Bytes → EnumDescriptor → List Sight
  enum_sights fs scope e = choose (not (taken rs (scope · text e.name))) (an_item (enum_item fs (scope · text e.name) e) ∷ []) []

  -- ---- messages, with all inside them
  unfoldable pub message_sights : List FileDescriptor → Bool → List Frame → Bytes → Forest MessageDescriptor → List Sight
  message_sights set proto3 fs scope done = []
  message_sights set proto3 fs scope (node m nested following) =
      let inside = in_module (spelt (snake (text m.name))) ∷ fs in
      let full = scope · text m.name in
      choose (not (m.map_entry || taken rs full))
      (struct_sights set proto3 fs scope full m nested
      ++ choose (has_module m nested)
      (an_item (module_at base fs (spelt (snake (text m.name))))
      ∷ (message_sights set proto3 inside full nested
      ++ (all_of (enum_sights inside full) m.enums ++ all_of (oneof_sights set inside full) (oneof_fields m nested)))) []) []
      ++ message_sights set proto3 fs scope following

-- ---- the text of a file
unfoldable pub written_sights : List Setting → List FileDescriptor → FileDescriptor → List Sight
written_sights rs set f =
    message_sights rs (file_place f) set (is_proto3 (syntax_of f.syntax)) [] (package_scope f.package_name) f.messages
    ++ all_of (enum_sights rs (file_place f) [] (package_scope f.package_name)) f.enums
