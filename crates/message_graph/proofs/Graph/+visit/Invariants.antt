use Rattle.message_graph.specs.Rows.{fields_of}
use Rattle.message_graph.specs.Marks.{clear}
use Rattle.message_graph.proofs.Visits.{Visiting}
use Rattle.message_graph.proofs.Graph.+visit.Given as goal

abbrev pub decreases-visit : goal.decreases-visit
decreases-visit l = clear l.marks.now

abbrev pub invariant-loop-field : goal.invariant-loop-field
invariant-loop-field l = Visiting (fields_of l.self) l.fields l.initial.marks l.marks l.message l.field-index
