use Rattle.std.specs.Prelude.{◌≡◌, length}
use Rattle.file_parts.proofs.WalkLaws.{Along}
use Rattle.member_rows.specs.MemberRows.{files_meet, set_meets}
use Rattle.member_rows.proofs.members_meet.Given as goal

abbrev pub invariant-loop-first : goal.invariant-loop-first
invariant-loop-first l =
    (Along l.context.messages 0 65535 (files_meet l.context.options (length l.initial.rows) l.context.set l.context.messages l.context.fields)
    (set_meets l.context.options (length l.initial.rows) l.context.set l.context.messages l.context.fields) l.first-iterator) × (length l.rows ≡ length l.initial.rows)
