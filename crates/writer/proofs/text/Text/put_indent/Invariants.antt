use Rattle.std.proofs.Common.{◌≡◌}
use Rattle.writer.specs.Text.{indent}
use Rattle.writer.specs.Writing.{◌▻◌}
use Rattle.writer.proofs.text.Text.put_indent.Given as goal

abbrev pub invariant-loop : goal.invariant-loop
invariant-loop l = l.self ≡ l.initial.self ▻ indent l.counter
