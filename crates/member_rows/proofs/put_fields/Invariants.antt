use Rattle.std.specs.Prelude.{◌≡◌, ◌-◌}
use Rattle.writer.specs.Writing.{◌▻◌}
use Rattle.members.specs.Members.{numbers_where}
use Rattle.member_rows.specs.MemberRows.{chosen, rows_by}
use Rattle.member_rows.proofs.put_fields.Given as goal

abbrev pub invariant-loop-k : goal.invariant-loop-k
invariant-loop-k l =
    l.text ▻ rows_by l.spelling l.context.set l.context.fields (numbers_where (chosen l.oneof) l.context.fields (l.k-iterator.end - l.k-iterator.start) l.k-iterator.start)
    ≡ l.fn.text ▻ rows_by l.spelling l.context.set l.context.fields (numbers_where (chosen l.oneof) l.context.fields (l.fn.fields.end - l.fn.fields.start) l.fn.fields.start)
