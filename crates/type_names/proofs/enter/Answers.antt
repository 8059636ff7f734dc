use Rattle.type_names.proofs.FrontLaws.{entered_none, entered}
use Rattle.type_names.proofs.enter.Goals as goal

pub returns-in_err-i : goal.returns-in_err-i
returns-in_err-i c = rw (c.from_residual.ensures, c.in_err-i.was) (entered_none _ _)

pub returns : goal.returns
returns c = rw c.in_ok-i.was (entered _ _ _ _ c.row-row.ensures _ c.above.ensures _ c.name_of.ensures)
