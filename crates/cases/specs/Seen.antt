-- The cases of a pack without where they lie in memory.
use Rattle.std.specs.Prelude.{ℕ, List, Result, Ok, Err}
use Rattle.wire.specs.Contents.{value_of}
use Rattle.wire.specs.Message.{Entry}
use Rattle.wire.specs.declared.records.record.Fault.{Fault as FaultAt}
use Rattle.wire.specs.Step.{Step, End, Fault, Found}
use Rattle.descriptor.specs.Decode.{bytes_in}

-- a field's number, and its bytes; a value of another wire type has none
pub record SeenCase : Type 0 where
  pub number : ℕ
  pub bytes : List ℕ

-- a field of these bytes, or where the key of one at fault stands
abbrev pub case_in : List ℕ → Step → Result SeenCase ℕ
case_in s End = Err 0
case_in s (Fault key) = Err key
case_in s (Found f) = Ok (record { number = f.number; bytes = bytes_in (value_of s f) })

-- the same of a record that was read
abbrev pub case_of : Result Entry FaultAt → Result SeenCase ℕ
case_of (Ok e) = Ok (record { number = e.field.number; bytes = bytes_in e.field.value })
case_of (Err f) = Err f.key
