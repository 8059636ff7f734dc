use Rattle.std.proofs.Common.{◌∙◌, arith}
use Rattle.struct_fields.proofs.TextLaws.{one_behind, all_written}
use Rattle.struct_fields.proofs.append_each_field.Goals as goal

pub loop-k-preserved : goal.loop-k-preserved
loop-k-preserved c =
    let d = c.in-Some.ensures.steps in
    rw (d.0, d.1.2) (one_behind _ _ _ _ _ _ _ _ _ _ _ (omega (arith, d.1.0)) (rw d.1.1 at c.append_if_free.ensures) ∙ c.loop-k.invariant)

pub returns : goal.returns
returns c =
    let d = c.in-None.ensures.steps in
    all_written _ _ _ _ _ _ _ _ _ _ _ _ _ (omega (arith, d.1.0)) c.loop-k.invariant
