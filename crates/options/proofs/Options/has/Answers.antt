use Rattle.std.proofs.Common.{rules}
use Rattle.std.proofs.lemmas.Iterator.Consumers.{YieldsList-from_first}
use Rattle.std.proofs.lemmas.Iterator.Search.{any_from_yields_List}
use borrow.Author.Tests.{tests}
use Rattle.options.specs.Kind.{kind_number}
use Rattle.options.specs.Rows.{row_seen, is_of}
use Rattle.options.proofs.Options.has.Goals as goal

pub returns : goal.returns
returns c = any_from_yields_List (is_of (kind_number c.args.kind)) _ _ _ c.any.ensures.ran (YieldsList-from_first row_seen (λ rest. rest) c.args.self.now c.rows.ensures.rows) (λ x b q k. search (rules, tests))
