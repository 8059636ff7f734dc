use Rattle.std.proofs.Common.{◌≡◌, ◌+◌, drop}
use Rattle.split.specs.Split.{first_part}
use Rattle.split.proofs.part_end.Given as goal

abbrev pub invariant-loop-i : goal.invariant-loop-i
invariant-loop-i l = l.i + first_part l.separator (drop l.i l.s) ≡ first_part l.separator l.s
