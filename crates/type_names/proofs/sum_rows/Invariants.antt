use Rattle.message_graph.specs.Tab.{Filled}
use Rattle.type_names.specs.LookUp.{row_sum}
use Rattle.type_names.proofs.sum_rows.Given as goal

abbrev pub invariant-loop-i : goal.invariant-loop-i
invariant-loop-i l = Filled (row_sum l.declared.set.now l.declared.rows.now) l.initial.sums l.sums l.i
