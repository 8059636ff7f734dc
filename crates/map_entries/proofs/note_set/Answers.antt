use mathlib.Core.Path.{ap, ◌∙◌}
use Rattle.map_entries.specs.Numbers.{numbers}
use Rattle.map_entries.proofs.NumberedLaws.{all_nobody}
use Rattle.map_entries.proofs.PassLaws.{passed_start, passed_more, passed_end}
use Rattle.map_entries.proofs.note_set.Goals as goal

pub loop-row-init : goal.loop-row-init
loop-row-init c = passed_start _ _ _ _

pub loop-row-preserved : goal.loop-row-preserved
loop-row-preserved c = passed_more _ _ _ _ _ _ c.loop-row.invariant c.loop-row-test.true _ c.note_row.ensures

pub returns : goal.returns
returns c = passed_end _ _ _ _ _ _ c.loop-row.invariant c.loop-row-test.false _ (ap numbers (c.fill.ensures.after (λ y h. h)) ∙ all_nobody _)
