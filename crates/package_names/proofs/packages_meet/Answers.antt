use Rattle.std.proofs.Common.{rules, ◌∙◌, ℕ, List}
use Rattle.std.specs.Prelude.{take}
use Rattle.std.proofs.lemmas.Iterator.Consumers.{YieldsList-from_first, YieldsList-from_enumerate}
use Rattle.std.proofs.lemmas.Iterator.Search.{any_from_yields_List}
use borrow.Author.Tests.{tests}
use Rattle.base.specs.Lists.{any}
use Rattle.descriptor.specs.Decode.{entries, parts}
use Rattle.package_names.specs.Packages.{parts_meet}
use Rattle.package_names.proofs.MeetLaws.{meet_once}
use Rattle.package_names.proofs.packages_meet.Goals as goal

pub returns : goal.returns
returns c =
    let ps = parts 1 (entries c.args.set.now) in
    any_from_yields_List (λ (p : ℕ × List ℕ). any (parts_meet p.1) (take p.0 ps)) _ _ _ c.any.ensures.ran
    (YieldsList-from_enumerate (YieldsList-from_first (λ x. x.now) (λ rest. rest) ps (c.enumerate.ensures.source ∙ c.new-files.ensures.parts)) c.enumerate.ensures.count)
    (λ x b q k. search (rules, tests))
    ∙ meet_once c.args.set.now
