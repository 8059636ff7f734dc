use Rattle.std.proofs.Common.{◌≡◌}
use Rattle.writer.specs.Writing.{◌▻◌}
use Rattle.literal.specs.Escape.{escape_bytes}
use Rattle.c_escaping.specs.Unescape.{unescaped}
use Rattle.c_escaping.proofs.ResultLaws.{before_error}
use Rattle.c_escaping.proofs.escape_unescaped.Given as goal

abbrev pub invariant-loop-unescaped : goal.invariant-loop-unescaped
invariant-loop-unescaped l = l.text ▻ escape_bytes (before_error l.unescaped-iterator) ≡ l.initial.text ▻ escape_bytes (unescaped l.s)
