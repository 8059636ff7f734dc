use Rattle.std.proofs.Common.{◌≡◌}
use Rattle.known_fields.specs.Check.{check, check_records}
use Rattle.known_fields.proofs.+check_message.Given as goal

abbrev pub decreases-check_message : goal.decreases-check_message
decreases-check_message l = l.levels

abbrev pub invariant-loop-record : goal.invariant-loop-record
invariant-loop-record l = check_records (check l.left) l.left l.message l.met l.record-iterator ≡ check l.levels l.message l.at l.part
