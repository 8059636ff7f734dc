use Rattle.std.proofs.Common.{rules}
use Rattle.base.specs.Bytes.{same}
use Rattle.name_rows.proofs.Steps.{same_behind, same_before}
use Rattle.name_rows.proofs.same_row.Goals as goal

pub returns-then-eq : goal.returns-then-eq
unfolding same
returns-then-eq c = same_before 380 4 c.args.x.now c.args.y.now (search rules) (search rules) _ c.eq.ensures c.if-eq.true _ c.eq-then-eq.ensures

pub returns-else-eq : goal.returns-else-eq
unfolding same
returns-else-eq c = same_behind 380 4 c.args.x.now c.args.y.now (search rules) (search rules) _ c.eq.ensures c.if-eq.false
