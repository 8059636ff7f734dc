use native.Mathlib.Omega.{arith}
use mathlib.Core.Path.{ap, ◌∙◌}
use Prim.Native.Nat.{ℕ, ◌%◌}
use Rattle.type_names.proofs.ChainLaws.{chained_within}
use Rattle.type_names.proofs.RowSumLaws.{others_before}
use Rattle.type_names.proofs.Names.like_before.Goals as goal

pub offset_bounds-self-k : goal.offset_bounds-self-k
offset_bounds-self-k c = omega (arith, c.if-n-k.false, (chained_within _ _ c.chained-n.ensures).1)

pub bounds-self-k : goal.bounds-self-k
bounds-self-k c = omega (arith, c.if-n-k.false, (chained_within _ _ c.chained-n.ensures).0)

pub bucket-own-requires : goal.bucket-own-requires
bucket-own-requires c = let w = chained_within _ _ c.chained-n.ensures in (omega (arith, c.if-n-k.false), w.1)

pub bucket-b-requires : goal.bucket-b-requires
bucket-b-requires c = let w = chained_within _ _ c.chained-n.ensures in (omega (arith, c.if-n-k.false), w.1)

pub returns-clause-others : goal.returns-clause-others
returns-clause-others c =
    rw c.min.ensures
    (others_before _ _ _ c.args.self.now.summed _ _ _ _ _ _ c.chained-n.ensures c.if-n-k.false (c.bucket-own.ensures.value ∙ ap (λ (v : ℕ). v % c.chained-n.result) c.sum_in.ensures.value) c.bucket-b.ensures.value c.if-own-b.false c.before_in.ensures.value)
