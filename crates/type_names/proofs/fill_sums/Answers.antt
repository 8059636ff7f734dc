use Rattle.type_names.proofs.RowSumLaws.{rows_chained}
use Rattle.type_names.proofs.fill_sums.Goals as goal

pub returns : goal.returns
returns c = rows_chained _ _ _ _ _ c.sum_rows.ensures c.chain.ensures
