use Rattle.descriptor.specs.Decode.{decode_enum, decode_oneof}
use Rattle.enum_text.proofs.PartLaws.{tree_unfit, tree_taken, tree_there}
use Rattle.enum_text.proofs.put_enum.Goals as goal

pub returns-then-not-takes : goal.returns-then-not-takes
unfolding decode_enum decode_oneof
returns-then-not-takes c = tree_there _ _ _ _ c.name_of-name.ensures _ c.in-Some.ensures _ c.as_bytes.ensures _ c.takes.ensures c.if-not-takes.true _ _ _ _ c.as_bytes-then-not-takes.ensures c.put_written.ensures

pub returns-else-not-takes : goal.returns-else-not-takes
unfolding decode_enum decode_oneof
returns-else-not-takes c = tree_taken _ _ _ _ c.name_of-name.ensures _ c.in-Some.ensures _ c.as_bytes.ensures _ c.takes.ensures c.if-not-takes.false _ _

pub returns-in_default : goal.returns-in_default
unfolding decode_enum decode_oneof
returns-in_default c = tree_unfit _ _ _ _ c.name_of-name.ensures c.in_default.ensures _ _
