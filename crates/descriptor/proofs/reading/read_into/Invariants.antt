use Rattle.std.proofs.Common.{◌≡◌}
use Rattle.wire.specs.Message.{fields_in}
use Rattle.descriptor.specs.Decode.{entries}
use Rattle.descriptor.specs.Steps.{after}
use Rattle.descriptor.proofs.reading.read_into.Given as goal

abbrev pub invariant-loop-record : goal.invariant-loop-record
invariant-loop-record g l = after g.T.TakeRecord.step l.known (fields_in l.record-iterator) ≡ after g.T.TakeRecord.step l.fn.known (entries l.part)
