use Rattle.std.proofs.Common.{◌≡◌, ◌∷◌}
use Rattle.writer.specs.Writing.{◌▻◌}
use Rattle.way.specs.Names.{downwards}
use Rattle.way.proofs.put_downwards.Given as goal

abbrev pub invariant-loop-name : goal.invariant-loop-name
invariant-loop-name l = l.text ▻ downwards (l.module ∷ l.name-iterator) ≡ l.initial.text ▻ downwards (l.initial.module ∷ l.initial.name-iterator)
