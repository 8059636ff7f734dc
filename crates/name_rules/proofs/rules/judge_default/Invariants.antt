use Rattle.base.specs.Steps.{whole}
use Rattle.utf8.specs.Utf8.{chars_from}
use mathlib.Core.Path.{◌≡◌}
use Prim.Native.Nat.{◌-◌}
use lib.ListN.{length}
use Rattle.name_rules.proofs.rules.judge_default.Given as goal

abbrev pub invariant-loop-at : goal.invariant-loop-at
invariant-loop-at l = whole (chars_from l.default l.at) ≡ whole (chars_from l.default 0)

abbrev pub decreases-loop-at : goal.decreases-loop-at
decreases-loop-at l = length l.default - l.at
