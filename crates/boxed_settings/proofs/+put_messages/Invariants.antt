use Rattle.std.proofs.Common.{◌≡◌, ◌-◌}
use Rattle.writer.specs.Writing.{◌▻◌}
use Rattle.walks.specs.Walked.{walked}
use Rattle.descriptor.specs.Decode.{entries, parts}
use Rattle.boxed_settings.specs.Flags.{message_flags, messages_flags, stay}
use Rattle.boxed_settings.proofs.+put_messages.Given as goal

abbrev pub invariant-loop-message : goal.invariant-loop-message
invariant-loop-message l = l.text ▻ walked (message_flags (messages_flags (l.left - 1) l.options) l.options l.scope) stay 0 l.message-iterator ≡ l.initial.text ▻ messages_flags l.left l.options l.scope (parts l.number (entries l.part))

abbrev pub decreases-put_messages : goal.decreases-put_messages
decreases-put_messages l = l.left
