use Rattle.std.proofs.Common.{arith}
use Rattle.message_graph.specs.Tab.{filled_none, filled_more}
use Rattle.context_tables.proofs.fill.Goals as goal

pub loop-i-init : goal.loop-i-init
loop-i-init g c = λ f is. filled_none

pub loop-i-preserved : goal.loop-i-preserved
loop-i-preserved g c =
    λ f is. let h = c.loop-i.invariant f is in filled_more h (omega (arith, h.size, c.loop-i-test.true)) c.made.result (is c.loop-i.i c.made.result (omega (arith, c.loop-i-test.true)) c.made.ensures)
