use Rattle.std.proofs.Common.{◌≡◌}
use Rattle.wire.specs.Message.{fields_in}
use Rattle.limits.specs.Weights.{text_length}
use Rattle.limits.proofs.FitLaws.{CountedTo, length_of_fields}
use Rattle.limits.proofs.+totals_below.Given as goal

abbrev pub decreases-totals_below : goal.decreases-totals_below
decreases-totals_below l = l.left

abbrev pub invariant-loop-record : goal.invariant-loop-record
invariant-loop-record l =
    record {
      counted : CountedTo l.left l.sort l.part l.record-iterator l.totals;
      named : length_of_fields 1 (fields_in l.record-iterator) l.name ≡ text_length 1 l.part;
    }
