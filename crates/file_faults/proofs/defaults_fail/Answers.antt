use Rattle.std.proofs.Common.{rules, ◌∙◌, ◌&&◌, refl}
use Rattle.std.proofs.lemmas.Iterator.{YieldsList-from_range}
use Rattle.std.proofs.lemmas.Iterator.Search.{any_from_yields_List}
use Rattle.text_tables.specs.Rows.{field_row, is_plain}
use Rattle.file_faults.specs.FileFaults.{default_fails_at}
use Rattle.file_faults.proofs.FieldLaws.{plain_any}
use Rattle.file_faults.proofs.defaults_fail.Goals as goal

pub returns : goal.returns
returns c =
    let given = c.args.context.now in
    let fields = c.args.fields.now in
    any_from_yields_List (λ k. is_plain (field_row given.fields k) && default_fails_at given.set given.fields k) _ _ _ c.any.ensures.ran (YieldsList-from_range fields.start fields.end _ refl refl) (λ x b q k. search rules)
    ∙ plain_any given.fields _ _ _
