use Rattle.std.specs.Prelude.{◌+◌, ◌-◌, ◌*◌, ◌^◌, not, eqb}
use Rattle.writer.specs.Writing.{◌▻◌}
use Rattle.walks.specs.Walked.{walked}
use Rattle.file_parts.proofs.WalkLaws.{Along}
use Rattle.place_rows.specs.PlaceRows.{message_rows, messages_rows, number_after}
use Rattle.place_rows.proofs.+put_message_put_messages_put_module.Given as goal

abbrev pub decreases-put_message : goal.decreases-put_message
decreases-put_message l = 3 * l.left + 2

abbrev pub decreases-put_messages : goal.decreases-put_messages
decreases-put_messages l = 3 * l.left

abbrev pub decreases-put_module : goal.decreases-put_module
decreases-put_module l = 3 * l.left + 1

abbrev pub invariant-put_messages-loop-number : goal.invariant-put_messages-loop-number
invariant-put_messages-loop-number l =
    Along l.context.messages l.left (2 ^ 33)
    (λ i ps. l.text ▻ walked (message_rows l.context.options l.context.messages l.context.fields (messages_rows l.context.options l.context.messages l.context.fields (l.left - 1)) l.scope (not (eqb (l.left - 1) 0))) (number_after l.context.options l.context.messages l.context.fields) i ps)
    (l.fn.text ▻ messages_rows l.context.options l.context.messages l.context.fields l.left l.scope l.fn.first l.fn.messages) l.number-iterator
