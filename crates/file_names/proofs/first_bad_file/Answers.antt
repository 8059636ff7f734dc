use Rattle.std.proofs.Common.{rules, ◌∙◌}
use Rattle.std.proofs.lemmas.Iterator.Consumers.{YieldsList-from_first, count_from_yields_List}
use Rattle.std.proofs.lemmas.Iterator.Search.{YieldsList-from_take_while}
use borrow.Author.Tests.{tests}
use Rattle.descriptor.specs.Decode.{entries, parts}
use Rattle.file_names.specs.Walks.{file_part_good}
use Rattle.file_names.proofs.TreeLaws.{first_is}
use Rattle.file_names.proofs.first_bad_file.Goals as goal

pub returns : goal.returns
returns c =
    count_from_yields_List _ _ c.count.ensures.ran
    (YieldsList-from_take_while _ file_part_good (YieldsList-from_first (λ x. x.now) (λ rest. rest) (parts 1 (entries c.args.set.now)) (c.take_while.ensures.source ∙ c.new.ensures.parts)) c.take_while.ensures.closure c.take_while.ensures.done (λ x b q k. search (rules, tests)))
    ∙ first_is _
