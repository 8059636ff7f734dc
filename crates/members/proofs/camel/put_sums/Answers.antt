use Rattle.std.proofs.Common.{◌∙◌}
use Rattle.members.proofs.SumSteps.{sums_from, sums_on, sums_end}
use Rattle.members.proofs.camel.put_sums.Goals as goal

pub loop-own-init : goal.loop-own-init
loop-own-init c = sums_from _ _ _ (c.into_iter-own-iterator.ensures.into_iter_gives ∙ c.new-own-items.ensures.parts)

pub loop-own-preserved : goal.loop-own-preserved
loop-own-preserved c = sums_on _ c.loop-own.invariant c.in-Some.ensures.steps c.name_of.ensures c.camel_sum-sum.ensures c.push.ensures

pub returns : goal.returns
returns c = sums_end _ c.loop-own.invariant c.in-None.ensures.steps.0
