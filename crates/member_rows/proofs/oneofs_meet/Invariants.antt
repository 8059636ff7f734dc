use Rattle.std.specs.Prelude.{◌≡◌, length}
use Rattle.member_rows.proofs.NameLaws.{oneofs_ahead}
use Rattle.member_rows.proofs.oneofs_meet.Given as goal

abbrev pub invariant-loop-index : goal.invariant-loop-index
invariant-loop-index l =
    (oneofs_ahead (length l.initial.rows) l.context.set l.context.messages l.context.fields l.message.number l.message.part l.count l.index
    ≡ oneofs_ahead (length l.initial.rows) l.context.set l.context.messages l.context.fields l.message.number l.message.part l.count 0) × (length l.rows ≡ length l.initial.rows)
