use Rattle.std.specs.Prelude.{◌≡◌, ◌+◌, ◌*◌, ◌^◌, length}
use Rattle.file_parts.proofs.WalkLaws.{Along}
use Rattle.member_rows.specs.MemberRows.{messages_meet}
use Rattle.member_rows.proofs.WalkLaws.{ahead}
use Rattle.member_rows.proofs.+message_meets_messages_meet.Given as goal

abbrev pub decreases-message_meets : goal.decreases-message_meets
decreases-message_meets l = 2 * l.left + 1

abbrev pub decreases-messages_meet : goal.decreases-messages_meet
decreases-messages_meet l = 2 * l.left

abbrev pub invariant-messages_meet-loop-number : goal.invariant-messages_meet-loop-number
invariant-messages_meet-loop-number l =
    (Along l.context.messages l.left (2 ^ 33) (ahead l.context.options (length l.initial.rows) l.context.set l.context.messages l.context.fields l.left l.scope)
    (messages_meet l.context.options (length l.initial.rows) l.context.set l.context.messages l.context.fields l.left l.scope l.fn.first l.fn.messages) l.number-iterator) × (length l.rows ≡ length l.initial.rows)
