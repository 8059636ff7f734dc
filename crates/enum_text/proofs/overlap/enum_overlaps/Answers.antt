use Rattle.std.proofs.Common.{ap, not}
use Rattle.descriptor.specs.Decode.{decode_enum, decode_oneof}
use Rattle.enum_text.proofs.PartLaws.{meets_unfit, meets_taken, meets_there}
use Rattle.enum_text.proofs.overlap.enum_overlaps.Goals as goal

pub returns-then-not-takes : goal.returns-then-not-takes
unfolding decode_enum decode_oneof
returns-then-not-takes c = meets_there _ _ _ _ c.name_of-name.ensures _ c.in-Some.ensures _ c.as_bytes.ensures _ c.takes.ensures (ap not c.if-not-takes.true) c.written_overlaps.ensures

pub returns-else-not-takes : goal.returns-else-not-takes
unfolding decode_enum decode_oneof
returns-else-not-takes c = meets_taken _ _ _ _ c.name_of-name.ensures _ c.in-Some.ensures _ c.as_bytes.ensures _ c.takes.ensures (ap not c.if-not-takes.false)

pub returns-in-None : goal.returns-in-None
unfolding decode_enum decode_oneof
returns-in-None c = meets_unfit _ _ _ _ c.name_of-name.ensures c.in-None.ensures
