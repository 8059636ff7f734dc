-- message_graph.rs: which message leads to which, by full names. Assumes nothing.
use Rattle.std.specs.Prelude.{Bool, ◌||◌, ◌&&◌, not, List, [], ◌∷◌, ◌++◌}
use Rattle.base.specs.Bytes.{same}
use Rattle.base.specs.Choose.{choose}
use Rattle.descriptor.specs.Descriptor.{Bytes, FieldDescriptor, FileDescriptor}
use Rattle.name_rules.specs.Accessors.{text, is_repeated, is_message}
use Rattle.name_rules.specs.FullNames.{Entry, set_entries}

-- get_message: its fields
unfoldable pub fields_of : List Entry → Bytes → List FieldDescriptor
fields_of [] full = []
fields_of (e ∷ es) full = choose (same e.full full) e.message.fields (fields_of es full)

-- document 01's link: from a message to the type of each of its fields that has type message and isn't repeated
pub record Link : Type 0 where
  pub from : Bytes
  pub to : Bytes

abbrev pub is_link : FieldDescriptor → Bool
is_link f = is_message f && not (is_repeated f)

unfoldable pub field_links : Bytes → List FieldDescriptor → List Link
field_links full [] = []
field_links full (f ∷ fs) =
    choose (is_link f) (record { from = full; to = text f.type_name } ∷ field_links full fs) (field_links full fs)

unfoldable pub links : List Entry → List Link
links [] = []
links (e ∷ es) = field_links e.full e.message.fields ++ links es

-- document 01's leading: every message leads to itself; by links, with or without the first one
unfoldable pub leads : List Link → Bytes → Bytes → Bool
leads [] a c = same a c
leads (l ∷ ls) a c = leads ls a c || (leads ls a l.from && leads ls l.to c)

-- is_nested: does outer lead to inner?
unfoldable pub is_nested : List FileDescriptor → Bytes → Bytes → Bool
is_nested set outer inner = leads (links (set_entries set)) outer inner
