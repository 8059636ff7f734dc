use Rattle.std.proofs.Common.{rules, ◌∙◌, not}
use Rattle.std.proofs.lemmas.Iterator.{YieldsList-from_slice}
use Rattle.std.proofs.lemmas.Iterator.Search.{any_from_yields_List}
use Rattle.text_tables.specs.Rows.{is_plain}
use Rattle.members.proofs.RangeLaws.{some_in}
use Rattle.members.proofs.in_oneofs.Goals as goal

pub returns : goal.returns
returns c =
    any_from_yields_List (λ row. not (is_plain row)) _ _ _ c.any.ensures.ran (YieldsList-from_slice _ (c.iter.ensures.rest ∙ c.rows_in.ensures)) (λ x b q k. search rules)
    ∙ some_in c.args.fields.now _ _
