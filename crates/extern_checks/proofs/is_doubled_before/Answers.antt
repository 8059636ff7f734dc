use Rattle.std.proofs.Common.{rules, ◌∙◌, sym}
use Rattle.std.proofs.lemmas.Iterator.{YieldsList-from_take}
use Rattle.std.proofs.lemmas.Iterator.Consumers.{YieldsList-from_first}
use Rattle.std.proofs.lemmas.Iterator.Search.{any_from_yields_List}
use borrow.Author.Tests.{tests}
use Rattle.options.specs.Rows.{row_seen}
use Rattle.extern_checks.specs.Doubles.{doubled}
use Rattle.extern_checks.proofs.GapLaws.{any_is}
use Rattle.extern_checks.proofs.is_doubled_before.Goals as goal

pub returns : goal.returns
returns c = any_from_yields_List (doubled (row_seen c.args.row.now)) _ _ _ c.any.ensures.ran (YieldsList-from_take _ (YieldsList-from_first row_seen (λ rest. rest) c.args.options.now (c.take.ensures.source ∙ c.rows.ensures.rows)) c.take.ensures.count) (λ x b q k. search (rules, tests)) ∙ sym (any_is _ _)
