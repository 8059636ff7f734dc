use Rattle.type_names.proofs.ChainLaws.{linked}
use Rattle.type_names.proofs.link.Goals as goal

pub returns : goal.returns
returns c = linked _ _ _ c.requires _ _ _ _ _ c.sum_in-sum.ensures.value c.bucket-b.ensures.value c.bucket-b.ensures.upper_bound c.last_in-before.ensures.value c.last_in-own.ensures.value c.pack.ensures _ _ _ c.sum_in.ensures.value c.before_in.ensures.value c.pack-2.ensures
