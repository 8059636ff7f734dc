use Rattle.std.proofs.Common.{◌≡◌, take}
use Rattle.base.specs.Each.{each}
use Rattle.writer.specs.Writing.{◌▻◌}
use Rattle.literal.specs.Escape.{escape_char}
use Rattle.literal.proofs.escape_all.Given as goal

abbrev pub invariant-loop-c : goal.invariant-loop-c
invariant-loop-c l = l.text ≡ l.initial.text ▻ each escape_char (take l.c-index l.bytes)
