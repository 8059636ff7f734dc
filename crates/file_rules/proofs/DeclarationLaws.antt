-- An enum and a message by their bytes: the name, and tests of the embedded messages. Assumes nothing.
use mathlib.Core.Path.{◌≡◌, ap, ap₂, ◌∙◌}
use mathlib.Core.Bool.{Bool, ◌&&◌}
use mathlib.Core.List.{List, map}
use Prim.Native.Nat.{ℕ}
use lib.ListN.{length}
use Rattle.descriptor.specs.Decode.{entries, parts, decode_field, decode_value, decode_oneof, decode_enum, decode_message}
use Rattle.base.specs.Lists.{all, all_map, map_length}
use Rattle.name_rules.specs.Rules.{has_name, field_good, value_good, enum_good, message_good}
use Rattle.file_rules.specs.Walks.{field_part_good, value_part_good, oneof_part_good, enum_part_good, message_part_good}

pub enum_is : (s : List ℕ) → enum_part_good s ≡ (has_name (decode_oneof s) && all value_part_good (parts 2 (entries s)))
unfolding enum_part_good enum_good decode_enum decode_oneof
enum_is s = ap (λ (t : Bool). has_name (decode_oneof s) && t) (all_map value_good decode_value (parts 2 (entries s)))

pub message_is : (s : List ℕ)
    → message_part_good s
    ≡ (has_name (decode_oneof s)
    && (all (field_part_good (length (parts 8 (entries s)))) (parts 2 (entries s)) && (all enum_part_good (parts 4 (entries s)) && all oneof_part_good (parts 8 (entries s)))))
unfolding message_part_good message_good decode_message decode_oneof enum_part_good
message_is s =
    let size : length (map decode_oneof (parts 8 (entries s))) ≡ length (parts 8 (entries s)) = map_length decode_oneof (parts 8 (entries s)) in
    ap (λ (t : Bool). has_name (decode_oneof s) && t)
    (ap₂ (λ (a b : Bool). a && b)
    (ap (λ (k : ℕ). all (field_good k) (map decode_field (parts 2 (entries s)))) size ∙ all_map (field_good (length (parts 8 (entries s)))) decode_field (parts 2 (entries s)))
    (ap₂ (λ (a b : Bool). a && b) (all_map enum_good decode_enum (parts 4 (entries s))) (all_map has_name decode_oneof (parts 8 (entries s)))))
