use Rattle.type_names.proofs.ChainLaws.{chained_within}
use native.Mathlib.Omega.{arith}
use Rattle.type_names.proofs.RowSumLaws.{others_last}
use Rattle.type_names.proofs.Names.last_like.Goals as goal

pub bucket-b-requires : goal.bucket-b-requires
bucket-b-requires c = let w = chained_within _ _ c.chained-n.ensures in (omega (arith, c.if-n-eq0.false), w.1)

pub offset_bounds-self-b : goal.offset_bounds-self-b
offset_bounds-self-b c = omega (arith, c.bucket-b.ensures.upper_bound, (chained_within _ _ c.chained-n.ensures).1)

pub bounds-self-b : goal.bounds-self-b
bounds-self-b c = omega (arith, c.bucket-b.ensures.upper_bound, (chained_within _ _ c.chained-n.ensures).0)

pub returns-clause-others : goal.returns-clause-others
returns-clause-others c =
    rw c.min.ensures (others_last _ _ _ c.args.self.now.summed _ _ _ _ _ c.chained-n.ensures c.bucket-b.ensures.value c.bucket-b.ensures.upper_bound c.last_in.ensures.value c.if-count-n.false)
