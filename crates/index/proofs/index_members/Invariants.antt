use Rattle.index.proofs.MemberLaws.{Going}
use Rattle.index.proofs.index_members.Given as goal

abbrev pub invariant-loop-j : goal.invariant-loop-j
invariant-loop-j l = Going l.set l.number l.messages l.count l.initial.rows l.i l.rows l.next l.j
