use Rattle.std.proofs.Common.{eq-eqb, ne_eqb}
use Rattle.base.specs.Choose.{choose}
use Rattle.message_graph.specs.Rows.{with_field}
use Rattle.message_graph.proofs.Range.with_field.Goals.{then-self-eq0, else-self-eq0}
use Rattle.message_graph.proofs.Range.with_field.Goals as goal

pub returns : goal.returns
unfolding with_field choose
returns c = elim c.if-self-eq0.branch [ then-self-eq0 w ↦ rw (w.result-is, eq-eqb _ 0 w.if-self-eq0.true) | else-self-eq0 w ↦ rw (w.result-is, ne_eqb _ 0 w.if-self-eq0.false) ]
