use Rattle.std.proofs.Common.{rules, ◌∙◌, sym}
use Rattle.std.proofs.lemmas.Iterator.Consumers.{YieldsList-from_first}
use Rattle.std.proofs.lemmas.Iterator.Search.{any_from_yields_List}
use borrow.Author.Tests.{tests, not-true}
use Rattle.wire.specs.Message.{seen, records_at}
use Rattle.descriptor.proofs.EntriesLaws.{entries_read}
use Rattle.text_call.proofs.DeclareLaws.{declares, none_declared}
use Rattle.text_call.proofs.declares_none.Goals as goal

pub returns : goal.returns
unfolding declares
returns c h =
    let found = any_from_yields_List declares _ _ _ c.any.ensures.ran (YieldsList-from_first seen (λ rest. rest) (records_at 0 c.args.part.now) (c.new.ensures.records (search rules))) (λ x b q k. search (rules, tests)) in
    rw (← entries_read 0 c.args.part.now) (none_declared (records_at 0 c.args.part.now) (sym found ∙ not-true _ h))
