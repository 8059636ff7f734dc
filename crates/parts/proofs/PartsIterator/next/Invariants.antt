use mathlib.Core.Path.{◌≡◌}
use lib.ListN.{length}
use Rattle.wire.specs.Message.{fields_in}
use Rattle.descriptor.specs.Decode.{parts}
use Rattle.parts.proofs.PartsIterator.next.Given as goal

abbrev pub invariant-loop-record : goal.invariant-loop-record
invariant-loop-record l =
    parts l.self-inside.number (fields_in l.self-inside.records) ≡ parts l.initial.self-inside.number (fields_in l.initial.self-inside.records)

abbrev pub decreases-loop-record : goal.decreases-loop-record
decreases-loop-record l = length l.self-inside.records
