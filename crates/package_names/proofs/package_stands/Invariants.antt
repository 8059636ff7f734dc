use Rattle.std.specs.Prelude.{◌≡◌, [], length}
use Rattle.base.specs.Bytes.{b}
use Rattle.extern_paths.specs.Split.{split}
use Rattle.name_rows.specs.Rows.{rows_in}
use Rattle.package_names.proofs.StandLaws.{stand}
use Rattle.package_names.proofs.package_stands.Given as goal

abbrev pub invariant-loop-segment : goal.invariant-loop-segment
invariant-loop-segment l = stand (rows_in (length l.rows) l.rows) l.home l.segment-iterator ≡ stand (rows_in (length l.rows) l.rows) [] (split (b ".") l.name)
