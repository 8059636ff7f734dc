use Rattle.std.proofs.Common.{rules, ◌∙◌}
use Rattle.std.proofs.lemmas.Iterator.{YieldsList-from_slice}
use Rattle.std.proofs.lemmas.Iterator.Search.{any_from_yields_List}
use borrow.Author.Tests.{tests}
use Rattle.base.specs.Bytes.{same}
use Rattle.name_rows.proofs.Steps.{any_among}
use Rattle.name_rows.proofs.is_among.Goals as goal

pub returns : goal.returns
returns c = any_from_yields_List (same c.args.wanted.now) _ _ _ c.any.ensures.ran (YieldsList-from_slice c.args.rows.now cc) (λ x b q k. search (rules, tests)) ∙ any_among _ _
