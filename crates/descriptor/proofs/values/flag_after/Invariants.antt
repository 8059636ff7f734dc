use Rattle.std.proofs.Common.{◌≡◌}
use Rattle.wire.specs.Message.{fields_in}
use Rattle.descriptor.specs.Decode.{entries}
use Rattle.descriptor.specs.Steps.{after, on, bool}
use Rattle.descriptor.proofs.values.flag_after.Given as goal

abbrev pub invariant-loop-record : goal.invariant-loop-record
invariant-loop-record l = after (on l.number bool) l.flag (fields_in l.record-iterator) ≡ after (on l.number bool) l.was (entries l.part)
