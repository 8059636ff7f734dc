use Rattle.std.proofs.Common.{rules, ◌∙◌}
use Rattle.std.proofs.lemmas.Iterator.{YieldsList-from_take}
use Rattle.std.proofs.lemmas.Iterator.Consumers.{YieldsList-from_first}
use Rattle.std.proofs.lemmas.Iterator.Search.{any_from_yields_List}
use borrow.Author.Tests.{tests}
use Rattle.base.specs.Lists.{any}
use Rattle.descriptor.specs.Decode.{entries, parts}
use Rattle.package_names.specs.Packages.{parts_meet}
use Rattle.package_names.proofs.package_meets.Goals as goal

pub returns : goal.returns
unfolding any
returns c =
    any_from_yields_List (parts_meet c.args.part.now) _ _ _ c.any.ensures.ran
    (YieldsList-from_take c.args.n (YieldsList-from_first (λ x. x.now) (λ rest. rest) (parts 1 (entries c.args.set.now)) (c.take.ensures.source ∙ c.new.ensures.parts)) c.take.ensures.count)
    (λ x b q k. search (rules, tests))
