use Rattle.std.proofs.Common.{◌≤◌}
use Rattle.base.specs.Lists.{first_failing}
use Rattle.message_graph.specs.Tab.{Filled}
use Rattle.field_columns.specs.Columns.{start_at, first_rows, before}
use Rattle.field_columns.proofs.fill_starts.Given as goal

abbrev pub invariant-loop-i : goal.invariant-loop-i
invariant-loop-i l = record { filled : Filled (start_at l.fields l.count) l.initial.first l.first l.i; passed : l.k ≤ first_failing (before l.i) (first_rows l.fields l.rows) }
