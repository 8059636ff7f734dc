use Rattle.std.proofs.Common.{◌≤◌}
use Rattle.base.specs.Lists.{first_failing}
use Rattle.field_columns.specs.Columns.{first_rows, before}
use Rattle.field_columns.proofs.start_from.Given as goal

abbrev pub invariant-loop-n : goal.invariant-loop-n
invariant-loop-n l = l.n ≤ first_failing (before l.i) (first_rows l.fields l.count)
