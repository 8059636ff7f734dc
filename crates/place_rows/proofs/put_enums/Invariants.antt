use Rattle.std.specs.Prelude.{◌≡◌}
use Rattle.writer.specs.Writing.{◌▻◌}
use Rattle.walks.specs.Walked.{walked}
use Rattle.place_rows.specs.PlaceRows.{enum_row, same_count, enum_rows}
use Rattle.place_rows.proofs.put_enums.Given as goal

abbrev pub invariant-loop-part : goal.invariant-loop-part
invariant-loop-part l = l.text ▻ walked (enum_row l.options l.home) same_count 0 l.part-iterator ≡ l.fn.text ▻ enum_rows l.options l.home l.fn.enums
