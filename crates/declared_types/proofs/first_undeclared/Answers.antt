use Rattle.declared_types.proofs.FieldLaws.{going_start, going_end, going_bad, going_more}
use mathlib.Core.Path.{ap}
use Rattle.declarations.specs.declared.Declaration.{Declaration as Row}
use mathlib.Core.Bool.{not}
use Rattle.declared_types.proofs.first_undeclared.Goals as goal

pub loop-row-init : goal.loop-row-init
loop-row-init c = going_start _ _ _

pub returns-then-not-is_row_good : goal.returns-then-not-is_row_good
returns-then-not-is_row_good c = going_bad _ _ _ _ c.loop-row.invariant c.loop-row-test.true _ c.is_row_good.ensures (ap not c.if-not-is_row_good.true) _ (ap (λ (r : Row). r.file) c.row.ensures)

pub loop-row-preserved : goal.loop-row-preserved
loop-row-preserved c = going_more _ _ _ _ c.loop-row.invariant c.loop-row-test.true _ c.is_row_good.ensures (ap not c.if-not-is_row_good.false)

pub returns : goal.returns
returns c = going_end _ _ _ _ c.loop-row.invariant c.loop-row-test.false _ c.count_parts.ensures
