use Rattle.std.proofs.Common.{◌≡◌}
use Rattle.base.specs.Bytes.{b}
use Rattle.writer.specs.Text.{each}
use Rattle.writer.specs.Writing.{◌▻◌}
use Rattle.way.proofs.put_supers.Given as goal

abbrev pub invariant-loop : goal.invariant-loop
invariant-loop l = l.text ≡ l.initial.text ▻ each (λ _. b "super::") l.counter
