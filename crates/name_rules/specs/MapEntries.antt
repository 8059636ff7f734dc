-- Refusal 6, as far as it goes over all fields of the set: which fields name a map entry. Assumes nothing.
use Rattle.std.specs.Prelude.{Bool, true, ◌&&◌, List, [], eqb, ltb}
use Rattle.base.specs.Choose.{choose}
use Rattle.descriptor.specs.Descriptor.{Bytes, Forest, done, node, FieldDescriptor, MessageDescriptor, FileDescriptor}
use Rattle.base.specs.Lists.{count}
use Rattle.name_rules.specs.Accessors.{text, is_repeated, is_message}
use Rattle.name_rules.specs.Rules.{is_text}
use Rattle.name_rules.specs.FullNames.{◌·◌, package_scope}

-- does a field of any type and label name it?
abbrev pub names_it : Bytes → FieldDescriptor → Bool
names_it full f = is_text full f.type_name

-- as a map field does?
abbrev pub maps_it : Bytes → FieldDescriptor → Bool
maps_it full f = is_repeated f && (is_message f && names_it full f)

-- At least one repeated message field of the parent names the entry, and no other field of the set: those of the parent are all there are.
unfoldable pub entry_named : List FieldDescriptor → List FieldDescriptor → Bytes → Bool
entry_named set_fields parent_fields full =
    ltb 0 (count (maps_it full) parent_fields) && eqb (count (maps_it full) parent_fields) (count (names_it full) set_fields)

-- every map entry among messages of a scope, given the fields of the set and of the message around them; at top level there are none of a parent
unfoldable pub entries_named : List FieldDescriptor → List FieldDescriptor → Bytes → Forest MessageDescriptor → Bool
entries_named set_fields parent_fields scope done = true
entries_named set_fields parent_fields scope (node m nested following) =
    choose m.map_entry (entry_named set_fields parent_fields (scope · text m.name)) true
    && (entries_named set_fields m.fields (scope · text m.name) nested && entries_named set_fields parent_fields scope following)

unfoldable pub map_entries_named : List FieldDescriptor → FileDescriptor → Bool
map_entries_named set_fields f = entries_named set_fields [] (package_scope f.package_name) f.messages
