-- The fields that the records of a message hold, as the encoding's document counts them.
use Rattle.std.specs.Prelude.{ℕ, ◌-◌, List, [], ◌∷◌, eqb}
use Rattle.std.proofs.Math.Option.{Option, none, some}
use Rattle.base.specs.Choose.{choose}
use Rattle.wire.specs.Encoding.{Value, varint_value, i64_value, len_value, i32_value, Field, little_endian}
use Rattle.wire.specs.Records.{records, part}
use Rattle.wire.specs.Message.{Entry}
use Rattle.std.specs.Prelude.{Result, Ok, Err}
use Rattle.wire.specs.declared.records.record.Fault.{Fault as FaultAt}
use Rattle.wire.specs.Step.{Record, Step, End, Fault, Found}

-- the bytes of a record's payload
abbrev pub payload_of : List ℕ → Record → List ℕ
payload_of s f = part s f.start (f.next - f.start)

unfoldable pub value_of : List ℕ → Record → Value
value_of s f =
    choose (eqb f.wiretype 0) (varint_value f.value)
    (choose (eqb f.wiretype 1) (i64_value (little_endian (payload_of s f)))
    (choose (eqb f.wiretype 2) (len_value (payload_of s f)) (i32_value (little_endian (payload_of s f)))))

unfoldable pub field_of : List ℕ → Record → Field
field_of s f = record { number = f.number; value = value_of s f }

abbrev pub also : Field → Option (List Field) → Option (List Field)
also f none = none
also f (some fs) = some (f ∷ fs)

-- the fields of these records; none where one is a fault
unfoldable pub fields_of : List ℕ → List Step → Option (List Field)
fields_of s [] = some []
fields_of s (End ∷ rs) = some []
fields_of s (Fault key ∷ rs) = none
fields_of s (Found f ∷ rs) = also (field_of s f) (fields_of s rs)

-- what the reader makes of a message
unfoldable pub contents : List ℕ → Option (List Field)
contents s = fields_of s (records s 0)

-- the fields of these records; none where there is a fault
unfoldable pub all_fields : List (Result Entry FaultAt) → Option (List Field)
all_fields [] = some []
all_fields (Ok e ∷ rs) = also e.field (all_fields rs)
all_fields (Err f ∷ rs) = none
