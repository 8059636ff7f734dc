-- A message has no more fields than bytes, and no more embedded messages.
use mathlib.Core.List.{List, [], ◌∷◌}
use Prim.Native.Nat.{ℕ, ◌≤◌}
use native.Mathlib.Omega.{arith}
use lib.ListN.{length}
use Rattle.std.specs.Prelude.{Result, Ok, Err}
use Rattle.descriptor.proofs.PartLaws.{parts_few}
use Rattle.wire.specs.Message.{Entry, records_at, fields_in}
use Rattle.wire.proofs.MessageLaws.{records_bound}
use Rattle.wire.specs.declared.records.record.Fault.{Fault as FaultAt}
use Rattle.descriptor.specs.Decode.{entries, parts}
use Rattle.descriptor.proofs.EntriesLaws.{entries_read}

fields_bound : (rs : List (Result Entry FaultAt)) → length (fields_in rs) ≤ length rs
unfolding fields_in
fields_bound [] = omega arith
fields_bound (Ok e ∷ rs) = omega (arith, fields_bound rs)
fields_bound (Err f ∷ rs) = omega (arith, fields_bound rs)

-- no part has more embedded messages than bytes
pub parts_bound : (n : ℕ) (s : List ℕ) → length (parts n (entries s)) ≤ length s
parts_bound n s =
    rw (← entries_read 0 s) (omega (arith, parts_few n (fields_in (records_at 0 s)), fields_bound (records_at 0 s), records_bound 0 s))
