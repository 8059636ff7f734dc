use Rattle.std.proofs.Common.{◌∙◌, rules}
use Rattle.options.proofs.RowsLaws.{head_read, row_read, row_start}
use Rattle.options.proofs.rows.read_row.Goals as goal

pub returns : goal.returns
returns c = row_read _ _ _ _ _ _ (c.read-header.ensures ∙ head_read _ _ _ (search rules) c.min.ensures) c.first_bytes-path.ensures c.first_bytes-value.ensures ∙ row_start _ _ _ _ c.min-2.ensures
