use Rattle.std.proofs.Common.{rules, ◌∙◌}
use Rattle.std.proofs.lemmas.Iterator.{YieldsList-from_slice}
use Rattle.std.proofs.lemmas.Iterator.Search.{any_from_yields_List}
use Rattle.text_tables.specs.Rows.{is_in}
use Rattle.members.proofs.RangeLaws.{some_with}
use Rattle.members.proofs.has_members.Goals as goal

pub returns : goal.returns
returns c =
    any_from_yields_List (is_in c.args.index) _ _ _ c.any.ensures.ran (YieldsList-from_slice _ (c.iter.ensures.rest ∙ c.rows_in.ensures)) (λ x b q k. search rules)
    ∙ some_with c.args.index c.args.fields.now _ _
