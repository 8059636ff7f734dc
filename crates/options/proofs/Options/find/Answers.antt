use Rattle.std.proofs.Common.{rules}
use Rattle.std.proofs.lemmas.Iterator.Consumers.{YieldsList-from_first}
use Rattle.std.proofs.lemmas.Iterator.Search.{find_from_yields_List}
use borrow.Author.Tests.{tests}
use Rattle.options.specs.Kind.{kind_number}
use Rattle.options.specs.Rows.{row_seen, is_of}
use Rattle.options.proofs.Options.find.Goals as goal

pub returns : goal.returns
returns c = find_from_yields_List (is_of (kind_number c.args.kind)) _ _ _ c.find.ensures.ran (YieldsList-from_first row_seen (λ rest. rest) c.args.self.now c.rows.ensures.rows) (λ x b q k. search (rules, tests))
