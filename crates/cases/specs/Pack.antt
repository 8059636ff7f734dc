-- The cases of a pack.
use Rattle.std.specs.Prelude.{ℕ, List, Result, Ok, Err, map}
use Rattle.wire.specs.Records.{records}
use Rattle.cases.specs.Seen.{SeenCase, case_in}
use Rattle.cases.specs.declared.pack.Case.{Case}
use Rattle.wire.specs.declared.records.record.Fault.{Fault}

abbrev pub seen : Result Case Fault → Result SeenCase ℕ
seen (Ok c) = Ok (record { number = c.number; bytes = c.bytes.now })
seen (Err f) = Err f.key

abbrev pub cases_in : List ℕ → List (Result SeenCase ℕ)
cases_in s = map (case_in s) (records s 0)
