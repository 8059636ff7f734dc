use Rattle.enum_text.proofs.SumLaws.{summing_end, summing_more}
use Rattle.enum_text.proofs.overlap.Variants.put_sums.Goals as goal

pub loop-value-preserved : goal.loop-value-preserved
loop-value-preserved c = summing_more _ _ _ c.loop-value.invariant c.in-Some.ensures.steps c.put_sum_of.ensures

pub returns : goal.returns
returns c = summing_end _ _ _ c.loop-value.invariant c.in-None.ensures.steps.0
