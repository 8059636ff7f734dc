use Rattle.derives.proofs.Known.{Scan}
use Prim.Native.Nat.{◌+◌, ◌*◌}
use Rattle.derives.proofs.Search.+field_can_fields_can_message_can.Given as goal

abbrev pub decreases-field_can : goal.decreases-field_can
decreases-field_can l = 3 * l.depth

abbrev pub decreases-fields_can : goal.decreases-fields_can
decreases-fields_can l = 3 * l.depth + 1

abbrev pub decreases-message_can : goal.decreases-message_can
decreases-message_can l = 3 * l.depth + 2

abbrev pub invariant-fields_can-loop-field : goal.invariant-fields_can-loop-field
invariant-fields_can-loop-field l = Scan l.self.derive l.self.graph.now l.fields l.initial.memo l.memo l.message l.field-index
