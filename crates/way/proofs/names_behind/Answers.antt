use Rattle.base.specs.Bytes.{b}
use Rattle.split.specs.Split.{split}
use Rattle.way.proofs.WayLaws.{next_behind}
use Rattle.way.proofs.names_behind.Goals as goal

pub loop-preserved : goal.loop-preserved
loop-preserved c = next_behind _ _ _ (split (b ".") c.args.ident.now) c.loop.counter c.next.ensures.steps c.loop.invariant
