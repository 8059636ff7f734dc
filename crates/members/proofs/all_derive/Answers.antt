use Rattle.std.proofs.Common.{rules, ◌∙◌, not, ◌||◌}
use Rattle.std.proofs.lemmas.Iterator.{YieldsList-from_slice}
use Rattle.std.proofs.lemmas.Iterator.Search.{all_from_yields_List}
use Rattle.text_tables.specs.Rows.{is_in}
use Rattle.members.specs.Members.{may_derive}
use Rattle.members.proofs.RangeLaws.{all_with}
use Rattle.members.proofs.all_derive.Goals as goal

pub returns : goal.returns
returns c =
    let index = c.oneof.inside.index in
    let derive = c.args.derive in
    rw (← c.oneof.view_is)
    (all_from_yields_List (λ row. not (is_in index row) || may_derive derive row) _ _ _ c.all.ensures.ran (YieldsList-from_slice _ (c.iter.ensures.rest ∙ c.rows_in.ensures)) (λ x b q k. search rules)
    ∙ all_with index (may_derive derive) c.args.fields.now _ _)
