use Rattle.std.proofs.Common.{rules, ◌∙◌, sym}
use Rattle.std.proofs.lemmas.Iterator.Adapters.{YieldsList-from_skip}
use Rattle.std.proofs.lemmas.Iterator.Consumers.{YieldsList-from_first}
use Rattle.std.proofs.lemmas.Iterator.Search.{any_from_yields_List}
use borrow.Author.Tests.{tests}
use Rattle.base.specs.Bytes.{b}
use Rattle.split.specs.Split.{split}
use Rattle.extern_checks.proofs.GapLaws.{empty_test, gap_is}
use Rattle.extern_checks.proofs.has_gap.Goals as goal

pub returns : goal.returns
returns c = any_from_yields_List empty_test _ _ _ c.any.ensures.ran (YieldsList-from_skip _ (YieldsList-from_first (λ x. x.now) (λ rest. rest) (split (b ".") c.args.path.now) (c.skip.ensures.source ∙ c.new.ensures.parts)) c.skip.ensures.count) (λ x b q k. search (rules, tests)) ∙ sym (gap_is _)
