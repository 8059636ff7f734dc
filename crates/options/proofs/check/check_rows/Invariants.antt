use Rattle.std.proofs.Common.{◌≡◌, ◌≤◌, ◌-◌, ◌+◌, ◌*◌, ◌^◌}
use Rattle.options.specs.Settings.{row_count, bodies}
use Rattle.options.specs.Layout.{layout_from}
use Rattle.options.proofs.check.check_rows.Given as goal

abbrev pub invariant-loop-row : goal.invariant-loop-row
invariant-loop-row l =
    record {
      body : l.body ≤ 2 ^ 20 + l.row * 131072;
      rest : layout_from l.bytes l.size (row_count l.bytes - l.row) l.row l.body ≡ layout_from l.bytes l.size (row_count l.bytes) 0 (bodies l.bytes);
    }
