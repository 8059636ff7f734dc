use Rattle.std.proofs.Common.{rules, ◌∙◌}
use Rattle.std.proofs.lemmas.Iterator.{YieldsList-from_zip}
use Rattle.std.proofs.lemmas.Iterator.Consumers.{YieldsList-at, YieldsList-from_first, count_from_yields_List}
use Rattle.std.proofs.lemmas.Iterator.Search.{YieldsList-from_take_while}
use borrow.Author.Tests.{tests}
use Rattle.base.specs.Bytes.{b}
use Rattle.split.specs.Split.{split}
use Rattle.way.proofs.WayLaws.{alike, common_is}
use Rattle.way.proofs.common.Goals as goal

pub returns : goal.returns
returns c =
    let outer = split (b ".") c.args.scope.now in
    let names = split (b ".") c.args.ident.now in
    count_from_yields_List _ _ c.count.ensures.ran
    (YieldsList-from_take_while _ alike
    (YieldsList-at c.take_while.ensures.source
    (YieldsList-from_zip (YieldsList-from_first (λ x. x.now) (λ rest. rest) outer (c.zip.ensures.first ∙ c.new.ensures.parts)) (YieldsList-from_first (λ x. x.now) (λ rest. rest) names (c.zip.ensures.second ∙ c.new-2.ensures.parts))))
    c.take_while.ensures.closure c.take_while.ensures.done (λ x b q k. search (rules, tests)))
    ∙ common_is outer names
