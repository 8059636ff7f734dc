use Rattle.std.proofs.Common.{◌+◌, ◌-◌, ◌*◌, ◌^◌, not, eqb}
use Rattle.writer.specs.Writing.{◌▻◌}
use Rattle.walks.specs.Walked.{walked}
use Rattle.file_parts.proofs.WalkLaws.{Along}
use Rattle.message_text.specs.MessageText.{message_text, message_texts, number_after}
use Rattle.message_text.proofs.+append_message_append_messages_append_module_lend_message.Given as goal

abbrev pub decreases-append_message : goal.decreases-append_message
decreases-append_message l = 4 * l.left + 2

abbrev pub decreases-append_messages : goal.decreases-append_messages
decreases-append_messages l = 4 * l.left

abbrev pub decreases-append_module : goal.decreases-append_module
decreases-append_module l = 4 * l.left + 1

abbrev pub decreases-lend_message : goal.decreases-lend_message
decreases-lend_message l = 4 * l.left + 3

abbrev pub invariant-append_messages-loop-number : goal.invariant-append_messages-loop-number
invariant-append_messages-loop-number l =
    Along l.context.messages l.left (2 ^ 64 - 1)
    (λ i ps. l.text ▻ walked (message_text l.context.options l.context.set l.context.messages l.context.fields l.proto3 (message_texts l.context.options l.context.set l.context.messages l.context.fields l.proto3 (l.left - 1)) (15 - (l.left - 1)) l.scope (not (eqb (l.left - 1) 0))) (number_after l.context.options l.context.set l.context.messages l.context.fields l.proto3) i ps)
    (l.initial.text ▻ message_texts l.context.options l.context.set l.context.messages l.context.fields l.proto3 l.left (16 - l.left) l.scope l.fn.first l.fn.messages) l.number-iterator
