use Rattle.std.proofs.Common.{◌≡◌, ◌+◌, ◌≤◌, length}
use Rattle.wire.specs.Message.{fields_in}
use Rattle.limits.specs.Sums.{sum}
use Rattle.limits.specs.Weights.{tally}
use Rattle.limits.proofs.Sizes.{room}
use Rattle.limits.proofs.WalkLaws.{tally_of}
use Rattle.limits.proofs.+count_below.Given as goal

abbrev pub decreases-count_below : goal.decreases-count_below
decreases-count_below l = l.left

abbrev pub invariant-loop-record : goal.invariant-loop-record
invariant-loop-record l =
    record {
      room : l.count + sum room (fields_in l.record-iterator) ≤ length l.part;
      counted : l.count + tally_of l.limit l.left l.sort l.around (fields_in l.record-iterator) ≡ tally l.limit l.left l.sort l.around l.part;
    }
