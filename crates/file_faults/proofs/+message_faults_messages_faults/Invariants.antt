use Rattle.std.proofs.Common.{◌+◌, ◌-◌, ◌*◌, ◌^◌}
use Rattle.file_parts.proofs.WalkLaws.{Along}
use Rattle.file_faults.specs.FileFaults.{◌or◌, faults_of, messages_faults}
use Rattle.file_faults.proofs.+message_faults_messages_faults.Given as goal

abbrev pub decreases-message_faults : goal.decreases-message_faults
decreases-message_faults l = 2 * l.left + 1

abbrev pub decreases-messages_faults : goal.decreases-messages_faults
decreases-messages_faults l = 2 * l.left

abbrev pub invariant-messages_faults-loop-number : goal.invariant-messages_faults-loop-number
invariant-messages_faults-loop-number l =
    Along l.context.messages l.left (2 ^ 64 - 1)
    (λ i ps. l.found or faults_of l.context.options l.context.set l.context.messages l.context.fields (messages_faults l.context.options l.context.set l.context.messages l.context.fields (l.left - 1)) l.scope i ps)
    (messages_faults l.context.options l.context.set l.context.messages l.context.fields l.left l.scope l.fn.first l.fn.messages) l.number-iterator
