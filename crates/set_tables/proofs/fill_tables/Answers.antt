use Rattle.std.proofs.Common.{arith}
use Rattle.set_tables.proofs.FillLaws.{few_there, many_there, places_are, count_is}
use Rattle.set_tables.proofs.fill_tables.Goals as goal

pub fill_within-requires : goal.fill_within-requires
fill_within-requires c = record { bound = omega arith; most_fields = few_there _ c.if-set-le-SHORT.true; rows_value = places_are _ _ _ c.index_files-count.ensures; count_value = count_is _ _ _ c.index_files-count.ensures }

pub fill_within-requires-2 : goal.fill_within-requires-2
fill_within-requires-2 c = record { bound = omega arith; most_fields = many_there _ c.if-set-le-SHORT.false; rows_value = places_are _ _ _ c.index_files-count.ensures; count_value = count_is _ _ _ c.index_files-count.ensures }
