use Rattle.std.proofs.Common.{◌≡◌, ◌<◌}
use Rattle.file_parts.specs.FileParts.{behind}
use Rattle.file_parts.proofs.behind.Given as goal

abbrev pub invariant-loop : goal.invariant-loop
invariant-loop l = (l.number ≡ behind l.messages l.counter l.first) × (l.first < 65536 → l.number < 65536)
