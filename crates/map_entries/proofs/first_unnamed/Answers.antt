use Rattle.map_entries.proofs.EntryRowLaws.{going_start, going_end, going_found, going_more}
use mathlib.Core.Path.{ap}
use Rattle.declarations.specs.declared.Declaration.{Declaration as Row}
use mathlib.Core.Bool.{not}
use Rattle.map_entries.proofs.first_unnamed.Goals as goal

pub loop-row-init : goal.loop-row-init
loop-row-init c = going_start _ _ _ _

pub returns-then-not-is_row_named : goal.returns-then-not-is_row_named
returns-then-not-is_row_named c = going_found _ _ _ _ _ c.loop-row.invariant c.loop-row-test.true _ c.is_row_named.ensures (ap not c.if-not-is_row_named.true) _ (ap (λ (r : Row). r.file) c.row.ensures)

pub loop-row-preserved : goal.loop-row-preserved
loop-row-preserved c = going_more _ _ _ _ _ c.loop-row.invariant c.loop-row-test.true _ c.is_row_named.ensures (ap not c.if-not-is_row_named.false)

pub returns : goal.returns
returns c = going_end _ _ _ _ _ c.loop-row.invariant c.loop-row-test.false _ c.count_parts.ensures
