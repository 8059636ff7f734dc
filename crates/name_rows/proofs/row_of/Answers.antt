use Rattle.name_rows.proofs.RowLaws.{row_filled}
use Rattle.name_rows.proofs.row_of.Goals as goal

pub returns : goal.returns
returns c = row_filled _ _ c.fill_row.ensures
