use Rattle.std.proofs.lemmas.Iterator.Consumers.{YieldsList-from_first, nth_from_yields_List}
use Rattle.base.specs.Bytes.{b}
use Rattle.split.specs.Split.{split}
use Rattle.split.proofs.word.Goals as goal

pub returns : goal.returns
returns c = nth_from_yields_List _ _ _ c.nth.ensures.ran (YieldsList-from_first (λ x. x.now) (λ rest. rest) (split (b " ") c.args.s.now) c.new.ensures.parts)
