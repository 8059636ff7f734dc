use native.Mathlib.Omega.{arith}
use Rattle.message_graph.specs.Tab.{filled_more}
use Rattle.message_graph.proofs.Graph.boxes.Goals as goal

pub loop-i-preserved : goal.loop-i-preserved
loop-i-preserved c = filled_more c.loop-i.invariant (omega (arith, c.loop-i.invariant.size)) c.boxed_by_loop.result c.boxed_by_loop.ensures
