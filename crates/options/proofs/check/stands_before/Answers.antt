use Rattle.std.proofs.Common.{rules, ◌∙◌, sym}
use Rattle.std.proofs.lemmas.Iterator.{YieldsList-from_take}
use Rattle.std.proofs.lemmas.Iterator.Consumers.{YieldsList-from_first}
use Rattle.std.proofs.lemmas.Iterator.Search.{any_from_yields_List}
use borrow.Author.Tests.{tests}
use Rattle.options.specs.Kind.{kind_number}
use Rattle.options.specs.Rows.{row_seen, is_of}
use Rattle.options.specs.Settings.{settings}
use Rattle.options.proofs.KindLaws.{any_before}
use Rattle.options.proofs.check.stands_before.Goals as goal

pub returns : goal.returns
returns c = any_from_yields_List (is_of (kind_number c.args.kind)) _ _ _ c.any.ensures.ran (YieldsList-from_take _ (YieldsList-from_first row_seen (λ rest. rest) (settings c.args.bytes.now) (c.take.ensures.source ∙ c.new.ensures.rows)) c.take.ensures.count) (λ x b q k. search (rules, tests)) ∙ sym (any_before _ _ _ c.requires)
