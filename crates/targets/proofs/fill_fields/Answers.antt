use native.Mathlib.Omega.{arith}
use Rattle.message_graph.specs.Tab.{filled_more}
use Rattle.targets.proofs.fill_fields.Goals as goal

pub loop-k-preserved : goal.loop-k-preserved
loop-k-preserved c = filled_more c.loop-k.invariant (omega (arith, c.loop-k.invariant.size)) c.field_in.result c.field_in.ensures
