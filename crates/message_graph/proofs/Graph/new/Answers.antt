use Rattle.message_graph.proofs.RowLaws.{ranged_none, ranged_more}
use Rattle.message_graph.proofs.Graph.new.Goals as goal

pub loop-i-init : goal.loop-i-init
loop-i-init c = ranged_none _

pub loop-i-preserved : goal.loop-i-preserved
loop-i-preserved c = ranged_more c.loop-i.invariant c.place_of-owner.result c.place_of-owner.ensures.message c.with_field.result c.with_field.ensures
