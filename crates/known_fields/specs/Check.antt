-- Refusal 3: the first fault of a set, met reading from the front, outer before inner.
-- Its place is the offset in the set of the innermost key at fault. A fault of the encoding is met before a known field's own, and both before what is inside.
use Rattle.std.specs.Prelude.{ℕ, zero, suc, Bool, true, false, not, List, [], ◌∷◌, get_or, set, replicate, nat_lt, Option, Some, None, Result, Ok, Err, if◌then◌else◌}
use Rattle.wire.specs.Encoding.{Value, varint_value, len_value}
use Rattle.wire.specs.Message.{Entry, records_at}
use Rattle.wire.specs.declared.records.record.Fault.{Fault}
use Rattle.known_fields.specs.Known.{class}
use Rattle.known_fields.specs.declared.Met.{Met}
use Rattle.known_fields.specs.declared.Message.{Message}
use Rattle.known_fields.specs.declared.Message.TheVariants.{FileDescriptorSet, DescriptorProto}
use Rattle.known_fields.specs.declared.Class.{Class}
use Rattle.known_fields.specs.declared.Class.TheVariants.{Unknown, Number, Bytes, Once, Repeated}

-- Levels left below a message: 20 below the set, 19 below a file, 18 below a message at the top, 3 below one at nesting 16, of whose enums the
-- values and their options are read. A message is entered where 4 are left, so nesting ends at 16; anything else where 1 is.
unfoldable pub levels_for : Message → ℕ
levels_for DescriptorProto = 4
levels_for _ = 1

-- an embedded message too deep to be read is judged as a record alone
unfoldable pub enter : ℕ → Message → Option Message
enter left message = if nat_lt left (levels_for message) then None else Some message

-- the embedded message that a field of a class holds, if it is read with so many levels left
unfoldable pub inner : ℕ → Class → Option Message
inner left (Once message) = enter left message
inner left (Repeated message) = enter left message
inner left _ = None

-- may a field of a class have a value? Of a field that comes once, one whose number was met before may not
unfoldable pub admits : Class → Bool → Value → Bool
admits Unknown met value = true
admits Number met (varint_value n) = not met
admits Bytes met (len_value bytes) = not met
admits (Once message) met (len_value bytes) = not met
admits (Repeated message) met (len_value bytes) = true
admits _ met value = false

unfoldable pub meet : ℕ → Met → Met
meet number met = record { marks = set met.marks number true }

abbrev pub none_met : Met
none_met = record { marks = replicate 18 false }

abbrev pub Outcome : Type 0
Outcome = Result (Unit {0}) Fault

-- how an embedded message is read: what it is, the offset of its first byte in the set, and its bytes
abbrev pub Reader : Type 0
Reader = Message → ℕ → List ℕ → Outcome

abbrev pub first_fault : Outcome → Outcome → Outcome
first_fault (Ok x) next = next
first_fault (Err f) next = Err f

-- what stands in a record's value, if it is read
unfoldable pub check_inside : Reader → Option Message → ℕ → Value → Outcome
check_inside read (Some message) start (len_value bytes) = read message start bytes
check_inside read _ start value = Ok tt

-- the records of a message with so many levels left. The state is which numbers were met, below 18: the others are unknown
unfoldable pub check_records : Reader → ℕ → Message → Met → List (Result Entry Fault) → Outcome
check_records read left message met [] = Ok tt
check_records read left message met (Err f ∷ rs) = Err f
check_records read left message met (Ok e ∷ rs) =
    if admits (class message e.field.number) (get_or met.marks e.field.number false) e.field.value
    then first_fault (check_inside read (inner left (class message e.field.number)) e.start e.field.value) (check_records read left message (meet e.field.number met) rs)
    else Err (record { key = e.key })

-- a message of which so many levels are read, its own among them
unfoldable pub check : ℕ → Reader
check zero message at bytes = Ok tt
check (suc left) message at bytes = check_records (check left) left message none_met (records_at at bytes)

unfoldable pub check_set : List ℕ → Outcome
check_set bytes = check 21 FileDescriptorSet 0 bytes
