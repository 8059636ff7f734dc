-- context.rs: what a set and its options say of a message and a field. Assumes nothing.
use Rattle.std.specs.Prelude.{ℕ, zero, suc, Bool, true, false, ◌||◌, ◌&&◌, List, length}
use Rattle.base.specs.Choose.{choose}
use Rattle.base.specs.Lists.{all}
use Rattle.field_types.specs.Types.{can_pack, type_eq}
use Rattle.descriptor.specs.Descriptor.{Bytes, FieldDescriptor, FileDescriptor}
use Rattle.options.specs.Settings.{Setting}
use Rattle.path.specs.PathMap.{get, get_first}
use Rattle.name_rules.specs.Accessors.{text, type, is_repeated, is_message, is_group}
use Rattle.name_rules.specs.FullNames.{◌·◌, set_entries}
use Rattle.context.specs.MessageGraph.{fields_of, is_nested}

-- does a row of the kind match the path?
abbrev pub has : List Setting → ℕ → Bytes → Bool
has rs kind path = (get_first kind path rs).found

-- ---- what the options say of a type or a field, by its full name
module _ (rs : List Setting) where
  abbrev pub type_attributes : Bytes → List Bytes
  type_attributes full = get 5 full rs

  abbrev pub message_attributes : Bytes → List Bytes
  message_attributes full = get 7 full rs

  abbrev pub enum_attributes : Bytes → List Bytes
  enum_attributes full = get 8 full rs

  abbrev pub field_attributes : Bytes → Bytes → List Bytes
  field_attributes full name = get 6 (full · name) rs

  -- bytes_type: is it `Bytes`?
  abbrev pub bytes_type : Bytes → Bytes → Bool
  bytes_type full name = has rs 2 (full · name)

  -- map_type: is it BTreeMap?
  abbrev pub map_type : Bytes → Bytes → Bool
  map_type full name = has rs 3 (full · name)

  abbrev pub should_skip_debug : Bytes → Bool
  should_skip_debug full = has rs 9 full

-- the link depth for Copy and Eq: no loop is gone through, so as many links as there are messages are enough
abbrev pub depth : List FileDescriptor → ℕ
depth set = length (set_entries set)

-- ---- Box and Copy, by the links of the set and the boxed settings; full is the message's full name
module _ (rs : List Setting) (set : List FileDescriptor) where
  -- should_box_impl: `at` is config_path, the message's full name, or the oneof's
  unfoldable pub should_box : Bytes → Bytes → FieldDescriptor → Bool
  should_box full at f =
      choose (is_repeated f) false
      (choose ((is_message f || is_group f) && is_nested set (text f.type_name) full) true (has rs 4 (at · text f.name)))

  abbrev pub should_box_message_field : Bytes → FieldDescriptor → Bool
  should_box_message_field full f = should_box full full f

  abbrev pub should_box_oneof_field : Bytes → Bytes → FieldDescriptor → Bool
  should_box_oneof_field full oneof f = should_box full (full · oneof) f

  -- can_field_derive_copy, where `message_copy` answers for messages. What is no message is Copy if it is a number, bool or enum
  unfoldable pub field_copy : (Bytes → Bool) → Bytes → FieldDescriptor → Bool
  field_copy message_copy full f =
      choose (is_repeated f) false
      (choose (is_message f)
      (choose (is_nested set (text f.type_name) full) false
      (choose (has rs 4 (full · text f.name)) false (message_copy (text f.type_name))))
      (can_pack (type f)))

  -- can_message_derive_copy, to a depth of n links
  unfoldable pub message_copy : ℕ → Bytes → Bool
  message_copy zero full = false
  message_copy (suc n) full = all (field_copy (message_copy n) full) (fields_of (set_entries set) full)

  unfoldable pub can_message_derive_copy : Bytes → Bool
  can_message_derive_copy full = message_copy (depth set) full

  unfoldable pub can_field_derive_copy : Bytes → FieldDescriptor → Bool
  can_field_derive_copy full f = field_copy (message_copy (depth set)) full f

-- ---- Eq
module _ (set : List FileDescriptor) where
  -- can_field_derive_eq, where `message_eq` answers for messages. What is no message is Eq if it is an integer, bool, enum, string or bytes
  unfoldable pub field_eq : (Bytes → Bool) → Bytes → FieldDescriptor → Bool
  field_eq message_eq full f =
      choose (is_message f)
      (choose (is_repeated f || is_nested set (text f.type_name) full) false (message_eq (text f.type_name)))
      (type_eq (type f))

  -- can_message_derive_eq, to a depth of n links
  unfoldable pub message_eq : ℕ → Bytes → Bool
  message_eq zero full = false
  message_eq (suc n) full = all (field_eq (message_eq n) full) (fields_of (set_entries set) full)

  unfoldable pub can_message_derive_eq : Bytes → Bool
  can_message_derive_eq full = message_eq (depth set) full

  unfoldable pub can_field_derive_eq : Bytes → FieldDescriptor → Bool
  can_field_derive_eq full f = field_eq (message_eq (depth set)) full f
