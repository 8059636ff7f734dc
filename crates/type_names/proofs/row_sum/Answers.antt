use Rattle.type_names.proofs.RowSumLaws.{sum_past, sum_whole}
use Rattle.type_names.proofs.row_sum.Goals as goal

pub returns-then-i-gt65535 : goal.returns-then-i-gt65535
returns-then-i-gt65535 c = sum_past _ _ _ c.if-i-gt65535.true

pub returns : goal.returns
returns c = sum_whole _ _ _ _ c.requires c.if-i-gt65535.false _ c.row-row.ensures _ _ c.above.ensures c.sum_above-around.ensures _ _ _ c.checksum_from-dotted.ensures.value c.name_of.ensures c.checksum_from.ensures.value
