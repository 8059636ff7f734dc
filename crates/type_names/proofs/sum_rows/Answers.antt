use native.Mathlib.Omega.{arith}
use Rattle.message_graph.specs.Tab.{filled_none, filled_more}
use Rattle.type_names.proofs.RowSumLaws.{filled_summed}
use Rattle.type_names.proofs.sum_rows.Goals as goal

pub loop-i-init : goal.loop-i-init
loop-i-init c = filled_none

pub row_sum-requires : goal.row_sum-requires
row_sum-requires c = filled_summed _ _ _ _ _ c.loop-i.invariant

pub loop-i-preserved : goal.loop-i-preserved
loop-i-preserved c = filled_more c.loop-i.invariant (omega (arith, c.loop-i.invariant.size)) c.row_sum.result c.row_sum.ensures
