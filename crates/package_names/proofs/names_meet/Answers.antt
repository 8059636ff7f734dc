use Rattle.std.proofs.Common.{rules, ap₂, ◌∙◌}
use Rattle.std.specs.Prelude.{eqb}
use Rattle.std.proofs.lemmas.Iterator.{YieldsList-from_zip}
use Rattle.std.proofs.lemmas.Iterator.Consumers.{YieldsList-at}
use Rattle.std.proofs.lemmas.Iterator.Search.{find_from_yields_List}
use Rattle.std.proofs.lemmas.Iterator.Splits.{YieldsList-from_slice_split}
use borrow.Author.Tests.{tests}
use Rattle.package_names.specs.Packages.{meets, cut_snake}
use Rattle.package_names.proofs.MeetLaws.{unlike, split_is, found_meets}
use Rattle.package_names.proofs.names_meet.Goals as goal

pub returns : goal.returns
returns c =
    found_meets c.find.result c.is_some_and.result _ _
    (find_from_yields_List unlike c.find.new.self _ c.find.result c.find.ensures.ran
    (YieldsList-from_zip
    (YieldsList-at c.zip.ensures.first (YieldsList-from_slice_split _ (λ x. eqb x 46) c.args.x.now c.split.ensures.rest c.split.ensures.done c.split.ensures.closure (λ x b q k. search (rules, tests))))
    (YieldsList-at c.zip.ensures.second (YieldsList-from_slice_split _ (λ x. eqb x 46) c.args.y.now c.split-2.ensures.rest c.split-2.ensures.done c.split-2.ensures.closure (λ x b q k. search (rules, tests)))))
    (λ x b q k. search (rules, tests)))
    (λ e. rw e at c.is_some_and.ensures)
    (λ p e. let h = rw e at c.is_some_and.ensures in search rules)
    ∙ ap₂ (meets cut_snake) (split_is c.args.x.now) (split_is c.args.y.now)
