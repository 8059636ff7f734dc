use Rattle.std.proofs.Common.{◌∙◌}
use Rattle.std.proofs.lemmas.Iterator.Consumers.{YieldsList-from_first}
use Rattle.cases.specs.Pack.{cases_in, seen}
use Rattle.cases.proofs.CompareLaws.{each_counted}
use Rattle.cases.proofs.compare.compare_pack.Goals as goal

pub returns : goal.returns
returns g c =
    each_counted _ _ _ (cases_in c.args.pack.now) _ c.compare_all.ensures
    (YieldsList-from_first seen (λ rest. rest) (cases_in c.args.pack.now) (c.enumerate-cases.ensures.source ∙ c.new.ensures.cases)) c.enumerate-cases.ensures.count
