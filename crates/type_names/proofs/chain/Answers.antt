use native.Mathlib.Omega.{arith}
use Rattle.type_names.proofs.ChainLaws.{chained_within, linking_none, linking_all}
use Rattle.type_names.proofs.chain.Goals as goal

pub loop-k-init : goal.loop-k-init
loop-k-init c = linking_none _ _

pub link-requires : goal.link-requires
link-requires c = let w = chained_within _ _ c.chained-n.ensures in (c.loop-k-test.true, w.1, omega (arith, w.0, c.loop-k.invariant.size))

pub returns : goal.returns
returns c = linking_all _ _ _ _ c.chained-n.ensures c.loop-k.invariant c.loop-k-test.false
