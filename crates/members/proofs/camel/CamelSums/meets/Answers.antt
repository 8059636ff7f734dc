use Rattle.std.proofs.Common.{◌∙◌}
use Rattle.members.proofs.SumSteps.{conflict_none}
use Rattle.members.proofs.camel.CamelSums.meets.Goals as goal

pub returns-else-may_hold : goal.returns-else-may_hold
returns-else-may_hold c = rw (← c.self.view_is) (c.if-may_hold.false ∙ conflict_none _ _ _ c.self.invariant c.camel_sum.ensures c.may_hold.ensures c.if-may_hold.false)
