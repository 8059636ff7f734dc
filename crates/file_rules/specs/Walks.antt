-- The rules of refusal 6 as tests of a declaration's bytes.
use Rattle.std.specs.Prelude.{ℕ, Bool, List}
use Rattle.descriptor.specs.Decode.{decode_field, decode_value, decode_oneof, decode_enum, decode_message}
use Rattle.name_rules.specs.Rules.{has_name, field_good, value_good, enum_good, message_good}

-- a field of a message with so many oneofs
abbrev pub field_part_good : ℕ → List ℕ → Bool
field_part_good oneofs p = field_good oneofs (decode_field p)

abbrev pub value_part_good : List ℕ → Bool
value_part_good p = value_good (decode_value p)

abbrev pub oneof_part_good : List ℕ → Bool
oneof_part_good p = has_name (decode_oneof p)

unfoldable pub enum_part_good : List ℕ → Bool
enum_part_good p = enum_good (decode_enum p)

unfoldable pub message_part_good : List ℕ → Bool
message_part_good p = message_good (decode_message p)
