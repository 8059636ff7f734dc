use Rattle.message_graph.specs.Rows.{fields_of}
use Rattle.message_graph.specs.Boxes.{boxed_by_loop}
use Rattle.message_graph.specs.Tab.{Filled}
use Rattle.message_graph.proofs.Graph.boxes.Given as goal

abbrev pub invariant-loop-i : goal.invariant-loop-i
invariant-loop-i l = Filled (boxed_by_loop (fields_of l.self)) l.initial.out l.out l.i
