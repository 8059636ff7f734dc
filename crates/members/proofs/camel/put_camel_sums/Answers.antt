use Rattle.std.proofs.Common.{◌∙◌}
use Rattle.members.proofs.SumSteps.{sums_of_both, sums_of_enums}
use Rattle.members.proofs.camel.put_camel_sums.Goals.{then-nested, else-nested}
use Rattle.members.proofs.camel.put_camel_sums.Goals as goal

pub returns : goal.returns
returns c =
    elim c.if-nested.branch [
      | then-nested w ↦ sums_of_both _ _ _ c.put_sums-2.ensures w.if-nested.true (w.sums-is ∙ w.put_sums.ensures)
      | else-nested w ↦ sums_of_enums _ _ _ c.put_sums-2.ensures w.if-nested.false w.sums-is
    ]
