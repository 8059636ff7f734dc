use Rattle.std.proofs.Common.{arith}
use Rattle.wire.proofs.Caps.{cap_more}
use Rattle.wire.proofs.read.+read_groups.Goals as goal

pub overflow_mul-result : goal.overflow_mul-result
overflow_mul-result t c =
    let h = cap_more c.args.left c.in_ok-high.high 0 c.in_ok-high.ensures.bound (omega arith) in omega (arith, h, c.requires)

pub overflow_add-result : goal.overflow_add-result
overflow_add-result t c =
    let h = cap_more c.args.left c.in_ok-high.high c.from-2.result c.in_ok-high.ensures.bound (omega (arith, c.from-2.ensures)) in omega (arith, h, c.requires)

pub returns-clause-bound : goal.returns-clause-bound
returns-clause-bound t c =
    cap_more c.args.left c.in_ok-high.high c.from-2.result c.in_ok-high.ensures.bound (omega (arith, c.from-2.ensures))
