use Rattle.message_graph.specs.Rows.{RangedTo}
use Rattle.message_graph.proofs.Graph.new.Given as goal

abbrev pub invariant-loop-i : goal.invariant-loop-i
invariant-loop-i l = RangedTo l.fields l.ranges l.i
