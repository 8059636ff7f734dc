use Rattle.std.proofs.Common.{◌≡◌}
use Rattle.base.specs.Each.{each}
use Rattle.writer.specs.Writing.{◌▻◌}
use Rattle.literal.specs.Escape.{escape_char, escape_text}
use Rattle.literal.proofs.escape_text.Given as goal

abbrev pub invariant-loop-c : goal.invariant-loop-c
invariant-loop-c l = l.text ▻ each escape_char l.c-iterator ≡ l.initial.text ▻ escape_text l.s
