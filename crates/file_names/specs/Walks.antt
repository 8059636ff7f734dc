-- Refusal 6 of messages and map entries as tests of their bytes, one by one.
use Rattle.std.specs.Prelude.{ℕ, Bool, true, ◌&&◌, List}
use Rattle.base.specs.Choose.{choose}
use Rattle.descriptor.specs.Decode.{entries, parts, decode_message, decode_messages, decode_file}
use Rattle.descriptor.specs.Descriptor.{FieldDescriptor}
use Rattle.name_rules.specs.Rules.{is_text, is_number, message_good, entry_good, messages_good, file_good}

-- a field with this name and number that is optional
unfoldable pub is_optional : List ℕ → ℕ → FieldDescriptor → Bool
is_optional name number f = is_text name f.name && (is_number number f.number && is_number 1 f.label)

-- a message without those nested in it, of which there are so many levels
unfoldable pub own_good : ℕ → List ℕ → Bool
own_good left p =
    message_good (decode_message p)
    && choose (decode_message p).map_entry (entry_good (decode_message p) (decode_messages left (parts 3 (entries p)))) true

-- and with them
unfoldable pub tree_good : ℕ → List ℕ → Bool
tree_good left p = own_good left p && messages_good (decode_messages left (parts 3 (entries p)))

abbrev pub file_part_good : List ℕ → Bool
file_part_good p = file_good (decode_file p)
